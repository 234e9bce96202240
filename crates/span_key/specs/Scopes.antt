-- The scope of a span.
use Rattle.std.specs.Prelude.{Bool, true, false}
use Rattle.span_key.specs.declared.scopes.Scope.{Scope}
use Rattle.span_key.specs.declared.scopes.Scope.TheVariants.{Global, Local}
use Rattle.span_key.specs.Spans.{Pair, is_local}

abbrev pub scope_if : Bool → Scope
scope_if true = Local
scope_if false = Global

-- a span is local where its first key begins with byte 1, and else global, even where it reaches over such keys
abbrev pub scope_of : Pair → Scope
scope_of s = scope_if (is_local s)
