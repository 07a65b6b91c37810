pub mod RecordsRead
pub mod Shorter
pub mod TraceReaches
pub mod TraceShorter
pub mod TraceShown
