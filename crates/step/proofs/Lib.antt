pub mod Making
pub mod Does
pub mod Ready
pub mod OneGo
pub mod Join
