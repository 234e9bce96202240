-- The history's entries as a desk keeps them.
use Rattle.std.specs.Prelude.{ℕ, List}
use Rattle.latch_model.specs.declared.history.Entry.{Entry}

-- The entries, and for how many further ones there is room.
pub record BookSays : Type 0 where
  pub entries : List Entry
  pub room : ℕ
