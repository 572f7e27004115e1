pub mod Count
pub mod Fields
pub mod Rules
pub mod Seek
pub mod Typed
pub mod Scopes
