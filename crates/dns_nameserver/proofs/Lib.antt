pub mod FormerLaws
