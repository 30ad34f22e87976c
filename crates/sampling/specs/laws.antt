-- What follows from the definitions. A caller that cites these opens none of them.
pub mod CommonLaws
pub mod FirstNumberLaws
pub mod WordLaws
pub mod BigEndianLaws
pub mod HashLaws
pub mod FipsExamples
pub mod HasherLaws
pub mod SampleLaws
