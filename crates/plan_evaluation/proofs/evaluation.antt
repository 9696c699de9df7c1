pub mod Results
pub mod LeafSteps
pub mod JoinedParts
pub mod SharedParts
pub mod NodeAnswers
pub mod PlanRefusals
pub mod OrderedSketches
pub mod MergedSketches
