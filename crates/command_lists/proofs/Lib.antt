pub mod Component
pub mod Components
pub mod ComponentAt
pub mod ByteAt
