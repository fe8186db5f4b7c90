pub mod PlanParts
