-- The ways through `push`, which rest on the refusals' definition.
pub mod PushLaws
