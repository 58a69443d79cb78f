pub mod CheckStage
pub mod JobPlans
pub mod LinkStage
pub mod ReadStage
pub mod RewriteStage
pub mod Stages
