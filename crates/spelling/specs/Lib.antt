pub mod OneSpelling
pub mod StepsRead
pub mod StepsSeen
pub mod StepsWritten
