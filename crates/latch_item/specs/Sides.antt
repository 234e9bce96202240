-- How an item lies to a span.
use Rattle.std.specs.Prelude.{Bool, cond}
use Rattle.latch_item.specs.declared.order.Side.{Side}
use Rattle.latch_item.specs.declared.order.Side.TheVariants.{Before, Overlaps, Past}

-- by whether the item reaches the span and whether it begins before the span's end
abbrev pub side_between : Bool → Bool → Side
side_between reaching beginning = cond reaching (cond beginning Overlaps Past) Before
