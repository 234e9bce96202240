use Rattle.std.proofs.Common.{List, [], ◌∷◌, refl, ◌∙◌}
use Rattle.latch_shots.specs.Roots.{Root}
use Rattle.latch_shots.specs.Shown.{root_of}
use Rattle.latch_shots.proofs.Closing.{owns-none}
use Rattle.latch_shots.proofs.shots.Shots.close.Goals as goal

pub give_up-requires-clause-roots : goal.give_up-requires-clause-roots
give_up-requires-clause-roots c =
    let (s, h) = c.requires.shown in
    let x = c.args.self in
    let four : List Root = root_of x.local_writes h.items_local_writes ∷ [] in
    let three : List Root = root_of x.local_reads h.items_local_reads ∷ four in
    (root_of x.global_reads h.items_global_reads, root_of x.global_writes h.items_global_writes ∷ three, refl, h.roots)

pub give_up-requires-clause-owns : goal.give_up-requires-clause-owns
give_up-requires-clause-owns c =
    let (s, h) = c.requires.shown in let v = c.args.self.seat.view in owns-none v c.empty-chain.result h.alone (c.empty-chain.ensures v)

pub give_up-requires-2-clause-roots : goal.give_up-requires-2-clause-roots
give_up-requires-2-clause-roots c =
    let (s, h) = c.requires.shown in
    let x = c.args.self in
    let four : List Root = root_of x.local_writes h.items_local_writes ∷ [] in
    let three : List Root = root_of x.local_reads h.items_local_reads ∷ four in
    let two : List Root = root_of x.global_writes h.items_global_writes ∷ three in
    (root_of x.global_writes h.items_global_writes, three, refl, c.give_up.ensures.roots (root_of x.global_reads h.items_global_reads) two refl h.roots)

pub give_up-requires-3-clause-roots : goal.give_up-requires-3-clause-roots
give_up-requires-3-clause-roots c =
    let (s, h) = c.requires.shown in
    let x = c.args.self in
    let four : List Root = root_of x.local_writes h.items_local_writes ∷ [] in
    let three : List Root = root_of x.local_reads h.items_local_reads ∷ four in
    let two : List Root = root_of x.global_writes h.items_global_writes ∷ three in (
      root_of x.local_reads h.items_local_reads,
      four,
      refl,
      c.give_up-2.ensures.roots (root_of x.global_writes h.items_global_writes) three refl
          (c.give_up.ensures.roots (root_of x.global_reads h.items_global_reads) two refl h.roots),
    )

pub give_up-requires-4-clause-roots : goal.give_up-requires-4-clause-roots
give_up-requires-4-clause-roots c =
    let (s, h) = c.requires.shown in
    let x = c.args.self in
    let four : List Root = root_of x.local_writes h.items_local_writes ∷ [] in
    let three : List Root = root_of x.local_reads h.items_local_reads ∷ four in
    let two : List Root = root_of x.global_writes h.items_global_writes ∷ three in (
      root_of x.local_writes h.items_local_writes,
      [],
      refl,
      c.give_up-3.ensures.roots (root_of x.local_reads h.items_local_reads) four refl
          (c.give_up-2.ensures.roots (root_of x.global_writes h.items_global_writes) three refl
          (c.give_up.ensures.roots (root_of x.global_reads h.items_global_reads) two refl h.roots)),
    )

pub returns : goal.returns
returns c =
    let (s, h) = c.requires.shown in
    let x = c.args.self in
    let four : List Root = root_of x.local_writes h.items_local_writes ∷ [] in
    let three : List Root = root_of x.local_reads h.items_local_reads ∷ four in
    let two : List Root = root_of x.global_writes h.items_global_writes ∷ three in
    record {
      same_table = c.give_up-4.ensures.same.0 ∙ c.give_up-3.ensures.same.0 ∙ c.give_up-2.ensures.same.0 ∙ c.give_up.ensures.same.0 ∙ c.requires.table;
      same_number = c.give_up-4.ensures.same.1 ∙ c.give_up-3.ensures.same.1 ∙ c.give_up-2.ensures.same.1 ∙ c.give_up.ensures.same.1;
      split_off = h.split_off;
      no_refs = c.give_up-4.ensures.roots (root_of x.local_writes h.items_local_writes) [] refl
          (c.give_up-3.ensures.roots (root_of x.local_reads h.items_local_reads) four refl
          (c.give_up-2.ensures.roots (root_of x.global_writes h.items_global_writes) three refl
          (c.give_up.ensures.roots (root_of x.global_reads h.items_global_reads) two refl h.roots)));
      owns = c.give_up-4.ensures.owns;
    }
