-- What is said of jobs.
pub mod Jobs
