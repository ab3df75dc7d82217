pub mod CopiedPixels
pub mod CopiedRows
pub mod FedJobs
pub mod FedLines
pub mod FedScripts
pub mod KeptPoints
pub mod KeptRoots
pub mod WrittenLines
