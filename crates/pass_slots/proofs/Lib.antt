pub mod OneKind
pub mod Ways
