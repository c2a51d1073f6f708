-- What is kept of an accepted value fits the row's field.
use Rattle.store.specs.Fields.{field_stores}
use Rattle.store.proofs.SettingLaws.{kept-below}
use Rattle.store.proofs.settings.Row.stores.Goals as goal

pub stores-requires-clause-value_bound : goal.stores-requires-clause-value_bound
stores-requires-clause-value_bound c = rw c.field.ensures.1 (kept-below _ _ c.kept.ensures c.requires.listed c.requires.v_value)

pub returns : goal.returns
unfolding field_stores
returns c = cc
