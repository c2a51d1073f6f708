pub mod EffectLaws
pub mod IdentityLaws
pub mod ReplyLaws
pub mod PlanLaws
