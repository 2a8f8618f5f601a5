-- The paths of included files.
use Rattle.std.specs.Prelude.{ℕ, ◌==◌, ◌&&◌, ◌||◌, ◌++◌, not, if◌then◌else◌, Bool, true, false, List, [], ◌∷◌, Option, Some, None}
use Rattle.std.specs.List.{list_any}
use Rattle.dns_zone_file.specs.declared.includes.path.Reach.{Reach}
use Rattle.dns_zone_file.specs.declared.includes.path.Reach.TheVariants.{Folder, Anywhere}

-- whether a path has a `/`
abbrev pub has_slash : List ℕ → Bool
has_slash path = list_any (λ c. c == 47) path

-- the folder of a path: all up to its last `/`, with it
abbrev pub folder : List ℕ → List ℕ
folder [] = []
folder (c ∷ cs) = if has_slash (c ∷ cs) then c ∷ folder cs else []

-- whether a path begins at the root
abbrev pub is_absolute : List ℕ → Bool
is_absolute [] = false
is_absolute (c ∷ cs) = c == 47

-- whether there is no further part, or a `/` before it
abbrev pub is_part_over : List ℕ → Bool
is_part_over [] = true
is_part_over (c ∷ cs) = c == 47

-- whether the first part of a path is `..`
abbrev pub is_up : List ℕ → Bool
is_up (a ∷ b ∷ rest) = (a == 46 && b == 46) && is_part_over rest
is_up other = false

-- whether a part of a path after the first is `..`
abbrev pub goes_up : List ℕ → Bool
goes_up [] = false
goes_up (c ∷ cs) = (c == 47 && is_up cs) || goes_up cs

-- whether a path may lead out of the folder that it begins in
abbrev pub leaves_folder : List ℕ → Bool
leaves_folder path = is_absolute path || (is_up path || goes_up path)

-- whether a zone file may include the file of a name
abbrev pub may_include : Reach → List ℕ → Bool
may_include Folder name = not (leaves_folder name)
may_include Anywhere name = true

-- the path of an included file, in the folder of the zone file unless it is absolute
abbrev pub path_beside : List ℕ → List ℕ → List ℕ
path_beside zone_file name = if is_absolute name then name else folder zone_file ++ name

-- the same, if the zone file may include it
abbrev pub included_path : Reach → List ℕ → List ℕ → Option (List ℕ)
included_path reach zone_file name = if may_include reach name then Some (path_beside zone_file name) else None
