pub mod StoredJobs
