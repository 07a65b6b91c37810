pub mod LaidBytes
pub mod LinesLeft
pub mod MapsMade
pub mod WriterAnswers
pub mod WrittenReadsBack
