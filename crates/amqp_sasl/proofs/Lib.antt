pub mod PlainLemmas
pub mod LoginLemmas
pub mod OneAnswer
