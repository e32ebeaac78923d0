pub mod FamilyLaws
mod NamedLaws
