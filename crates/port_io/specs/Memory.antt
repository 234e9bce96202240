-- Sources and sinks over memory, whose failures are a list of calls.
use Rattle.std.specs.Prelude.{ℕ, Bool, ◌==◌, List}
use Rattle.std.specs.List.{list_any}

-- a source over memory: the bytes still to come, how many a read gives at most, the numbers of the reads that fail, and
-- how many reads and how many faults there were
pub record MemoryInput : Type 0 where
  pub bytes : List ℕ
  pub piece : ℕ
  pub fails : List ℕ
  pub reads : ℕ
  pub faults : ℕ

-- a sink over memory: the bytes written, for how many more there is room, how many a write takes at most, the numbers of
-- the writes that fail, and how many writes and how many faults there were
pub record MemoryOutput : Type 0 where
  pub bytes : List ℕ
  pub room : ℕ
  pub piece : ℕ
  pub fails : List ℕ
  pub writes : ℕ
  pub faults : ℕ

-- the call with this number is to fail
abbrev pub is_listed : ℕ → List ℕ → Bool
is_listed call fails = list_any (λ k. k == call) fails
