pub mod LineLaws
pub mod UpdateLaws
pub mod WordsGrammarLaws
