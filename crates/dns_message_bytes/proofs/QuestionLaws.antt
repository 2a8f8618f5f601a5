-- Questions whose names have no compression pointers, as they are read.
use Rattle.std.proofs.Common.{◌≡◌, ℕ, ◌+◌, ◌≤◌, List, [], ◌∷◌, ◌++◌, length, drop, refl, sym, ap, ◌∙◌, append_assoc, arith, length-append}
use Rattle.std.specs.Int.{w16, to_be_bytes}
use Rattle.std.specs.List.{AllByRecursion}
use Rattle.dns_wire.specs.codes.RecordType.{type_number}
use Rattle.dns_wire.specs.codes.DNSClass.{class_number}
use Rattle.dns_wire.specs.Name.{IsLabel, AreLabels, name_len}
use Rattle.dns_wire.specs.Reading.{ReadsName}
use Rattle.dns_wire.specs.Writing.{labels_form, whole_form}
use Rattle.dns_wire.specs.Encodable.{Plain, PiecesAt}
use Rattle.dns_wire.specs.declared.name_encoding.NameEncoding.TheVariants.{Uncompressed}
use Rattle.dns_wire.proofs.NameLaws.{length-whole_form, whole_reads}
use Rattle.dns_messages.specs.declared.query.Query.{Query}
use Rattle.dns_messages.specs.Question.{question_pieces}
use Rattle.dns_message_bytes.specs.view.Request.{question_form}
use Rattle.dns_message_bytes.proofs.ListLaws.{same_rest, heads, behind, behind-within, plain_then}

-- ---- what follows a name

whole-split : (l : List ℕ) (labels : List (List ℕ)) (more : List ℕ) → whole_form (l ∷ labels) ++ more ≡ length l ∷ (l ++ (whole_form labels ++ more))
whole-split l labels more =
    ap (λ (xs : List ℕ). length l ∷ (xs ++ more)) (append_assoc l (labels_form labels) (0 ∷ []))
    ∙ ap (λ (xs : List ℕ). length l ∷ xs) (append_assoc l (whole_form labels) more)

-- what follows a name that is not compressed is determined
pub name_rest : (a b : List (List ℕ)) (x y : List ℕ) → AllByRecursion IsLabel a → AllByRecursion IsLabel b → whole_form a ++ x ≡ whole_form b ++ y → x ≡ y
name_rest [] [] x y all all' e = (heads 0 0 x y e).1
name_rest [] (l ∷ b) x y all all' e = absurd (omega (arith, all'.0.some, (heads 0 (length l) x _ (e ∙ whole-split l b y)).0))
name_rest (l ∷ a) [] x y all all' e = absurd (omega (arith, all.0.some, (heads (length l) 0 _ y (sym (whole-split l a x) ∙ e)).0))
name_rest (l ∷ a) (m ∷ b) x y all all' e =
    let both = heads (length l) (length m) (l ++ (whole_form a ++ x)) (m ++ (whole_form b ++ y)) (sym (whole-split l a x) ∙ e ∙ whole-split m b y) in
    name_rest a b x y all.1 all'.1 (same_rest l m (whole_form a ++ x) (whole_form b ++ y) both.0 both.1)

-- ---- questions

abbrev type_bytes : Query → List ℕ
type_bytes q = to_be_bytes w16 (type_number q.query_type)

abbrev class_bytes : Query → List ℕ
class_bytes q = to_be_bytes w16 (class_number q.query_class)

pub question_split : (q : Query) (more : List ℕ) → question_form q ++ more ≡ whole_form q.name.labels ++ (to_be_bytes w16 (type_number q.query_type) ++ (to_be_bytes w16 (class_number q.query_class) ++ more))
question_split q more =
    append_assoc (whole_form q.name.labels) (type_bytes q ++ class_bytes q) more
    ∙ ap (λ (xs : List ℕ). whole_form q.name.labels ++ xs) (append_assoc (type_bytes q) (class_bytes q) more)

-- what follows a question is determined
pub question_rest : (a b : Query) (x y : List ℕ) → AreLabels a.name.labels → AreLabels b.name.labels → question_form a ++ x ≡ question_form b ++ y → x ≡ y
question_rest a b x y all all' e =
    let name = name_rest a.name.labels b.name.labels (type_bytes a ++ (class_bytes a ++ x)) (type_bytes b ++ (class_bytes b ++ y)) all.each all'.each (sym (question_split a x) ∙ e ∙ question_split b y) in
    same_rest (class_bytes a) (class_bytes b) x y refl (same_rest (type_bytes a) (type_bytes b) (class_bytes a ++ x) (class_bytes b ++ y) refl name)

-- what is read piece by piece
pub question_read : (q : Query) (t c : ℕ) (start past_name past_type more : List ℕ) → t ≡ type_number q.query_type → c ≡ class_number q.query_class → start ≡ whole_form q.name.labels ++ past_name
    → past_name ≡ to_be_bytes w16 t ++ past_type → past_type ≡ to_be_bytes w16 c ++ more → start ≡ question_form q ++ more
question_read q t c start past_name past_type more t_is c_is e f g =
    let class : past_type ≡ class_bytes q ++ more = g ∙ ap (λ (n : ℕ). to_be_bytes w16 n ++ more) c_is in
    let kind : past_name ≡ type_bytes q ++ (class_bytes q ++ more) = f ∙ ap (λ (n : ℕ). to_be_bytes w16 n ++ past_type) t_is ∙ ap (λ (xs : List ℕ). type_bytes q ++ xs) class in
    e ∙ ap (λ (xs : List ℕ). whole_form q.name.labels ++ xs) kind ∙ sym (question_split q more)

-- four bytes follow the name of a question
pub past_name-some : (labels : List (List ℕ)) (start past_name : List ℕ) (q : Query) (more : List ℕ) → AreLabels labels → AreLabels q.name.labels → start ≡ whole_form labels ++ past_name → start ≡ question_form q ++ more → 4 ≤ length past_name
past_name-some labels start past_name q more are are' e f =
    let name = name_rest labels q.name.labels past_name (type_bytes q ++ (class_bytes q ++ more)) are.each are'.each (sym e ∙ f ∙ question_split q more) in
    omega (arith, ap (λ (xs : List ℕ). length xs) name)

-- ---- a question is its pieces

pub question-len : (q : Query) → length (question_form q) ≡ name_len q.name.labels + 4
question-len q = omega (arith, length-whole_form q.name.labels, length-append (whole_form q.name.labels) (type_bytes q ++ class_bytes q))

pub question_at : (buffer : List ℕ) (place : ℕ) (q : Query) (more : List ℕ) → AreLabels q.name.labels → place ≤ length buffer → drop place buffer ≡ question_form q ++ more
    → PiecesAt Uncompressed buffer place (question_pieces q) (place + length (question_form q))
question_at buffer place q more are within h =
    let n = name_len q.name.labels in
    let parts = h ∙ question_split q more in
    let len = length-whole_form q.name.labels in
    let name : ReadsName buffer place q.name.labels (place + n) = whole_reads buffer place place 255 q.name.labels (type_bytes q ++ (class_bytes q ++ more)) are.each are.fits parts in
    let at = behind buffer place n (whole_form q.name.labels) _ len parts in
    let inside = behind-within buffer place n (whole_form q.name.labels) _ len within parts in
    let ends : place + n + 2 + 2 ≡ place + length (question_form q) = omega (arith, question-len q) in (
      place + n,
      name,
      plain_then buffer (place + n) 2 (type_bytes q) _ (Plain (class_bytes q) ∷ []) (place + length (question_form q)) refl inside at (λ h1 w1.
          plain_then buffer (place + n + 2) 2 (class_bytes q) more [] (place + length (question_form q)) refl w1 h1 (λ h2 w2. ends)),
    )
