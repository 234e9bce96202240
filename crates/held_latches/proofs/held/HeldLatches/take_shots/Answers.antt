use Rattle.std.proofs.Common.{◌≡◌, ℕ, suc, ◌+◌, ◌≤◌, if◌then◌else◌, List, [], ◌∷◌, ◌++◌, length, take, ap, sym, ◌∙◌, subst, arith}
use Rattle.row_pool.specs.declared.chain.Chain.{Chain}
use Rattle.held_latches.specs.Scopes.{aside_of}
use Rattle.latch_shots.specs.Roots.{Root}
use Rattle.latch_shots.specs.Shown.{root_of as shot_root}
use Rattle.held_latches.specs.Content.{Content}
use Rattle.held_latches.specs.Holding.{HasSpare}
use Rattle.held_latches.specs.Stock.{root_rows, tree_root, with_row}
use Rattle.latch_model.specs.Histories.{Snapshot}
use Rattle.held_latches.proofs.Capturing.{Shown, kept-still, rows-four, rows-then, shots_if, show-global-reads, show-global-writes, show-local-reads}
use Rattle.held_latches.proofs.Capturing.{show-local-writes, shows-all}
use Rattle.held_latches.proofs.held.HeldLatches.take_shots.Goals as goal
use Rattle.held_latches.proofs.held.HeldLatches.take_shots.Goals.{After-add_root-all, After-shot_if-global_reads, After-shot_if-global_writes, After-shot_if-local_reads}
use Rattle.held_latches.proofs.held.HeldLatches.take_shots.Goals.{After-shot_if-local_writes}

-- The pool after each shot: it has the shots so far in front of the roots of the four trees.
module _ (s : Snapshot) (n spare : ℕ) where
  one : (c : After-shot_if-local_writes) (o : HasSpare c.args.self.now s n spare)
      → Shown c.args.self.now c.shot_if-local_writes.new.pool o.holds.global o.holds.local
      (shot_root c.shot_if-local_writes.result (if c.args.local then o.holds.local.writes else []) ∷ [])
  one c o = let h = c.args.self.now in let g = o.holds.global in let l = o.holds.local in
      c.shot_if-local_writes.ensures.shown (tree_root h.global.writes g.writes ∷ tree_root h.global.reads g.reads ∷ []) (tree_root h.local.reads l.reads ∷ [])
      l.writes (g.pending ++ l.pending) (show-local-writes h h.pool g l [] o.holds.kept (omega arith) o.holds.kept.stock)

  two : (c : After-shot_if-local_reads) (o : HasSpare c.args.self.now s n spare) (x : Root)
      → Shown c.args.self.now c.shot_if-local_writes.new.pool o.holds.global o.holds.local (x ∷ [])
      → Shown c.args.self.now c.shot_if-local_reads.new.pool o.holds.global o.holds.local
      (shot_root c.shot_if-local_reads.result (if c.args.local_write then o.holds.local.reads else []) ∷ x ∷ [])
  two c o x shown = let h = c.args.self.now in let g = o.holds.global in let l = o.holds.local in
      c.shot_if-local_reads.ensures.shown (x ∷ tree_root h.global.writes g.writes ∷ tree_root h.global.reads g.reads
      ∷ tree_root h.local.writes l.writes ∷ []) [] l.reads (g.pending ++ l.pending)
      (show-local-reads h c.shot_if-local_writes.new.pool g l (x ∷ []) o.holds.kept (omega arith) shown)

  three : (c : After-shot_if-global_writes) (o : HasSpare c.args.self.now s n spare) (x y : Root)
      → Shown c.args.self.now c.shot_if-local_reads.new.pool o.holds.global o.holds.local (x ∷ y ∷ [])
      → Shown c.args.self.now c.shot_if-global_writes.new.pool o.holds.global o.holds.local
      (shot_root c.shot_if-global_writes.result (if c.args.global then o.holds.global.writes else []) ∷ x ∷ y ∷ [])
  three c o x y shown = let h = c.args.self.now in let g = o.holds.global in let l = o.holds.local in
      c.shot_if-global_writes.ensures.shown (x ∷ y ∷ []) (tree_root h.global.reads g.reads ∷ tree_root h.local.writes l.writes ∷ tree_root h.local.reads l.reads ∷ [])
      g.writes (g.pending ++ l.pending) (show-global-writes h c.shot_if-local_reads.new.pool g l (x ∷ y ∷ []) o.holds.kept (omega arith) shown)

  four : (c : After-shot_if-global_reads) (o : HasSpare c.args.self.now s n spare) (x y z : Root)
      → Shown c.args.self.now c.shot_if-global_writes.new.pool o.holds.global o.holds.local (x ∷ y ∷ z ∷ [])
      → Shown c.args.self.now c.shot_if-global_reads.new.pool o.holds.global o.holds.local
      (shot_root c.shot_if-global_reads.result (if c.args.global_write then o.holds.global.reads else []) ∷ x ∷ y ∷ z ∷ [])
  four c o x y z shown = let h = c.args.self.now in let g = o.holds.global in let l = o.holds.local in
      c.shot_if-global_reads.ensures.shown (x ∷ y ∷ z ∷ tree_root h.global.writes g.writes ∷ []) (tree_root h.local.writes l.writes
      ∷ tree_root h.local.reads l.reads ∷ []) g.reads (g.pending ++ l.pending)
      (show-global-reads h c.shot_if-global_writes.new.pool g l (x ∷ y ∷ z ∷ []) o.holds.kept (omega arith) shown)

-- the rows of the roots are those of the shots that have one
rows : (c : After-add_root-all) (g l : Content) → root_rows (shots_if c.args.global c.args.global_write c.args.local c.args.local_write g l
    c.shot_if-global_reads.result c.shot_if-global_writes.result c.shot_if-local_reads.result c.shot_if-local_writes.result)
    ≡ take c.add_root-all.result c.add_root-all.new.roots
rows c g l = sym (c.add_root-all.ensures.rows ∙ ap (λ l. l ++ with_row c.shot_if-local_writes.result.root []) (c.add_root-three.ensures.rows
    ∙ ap (λ l. l ++ with_row c.shot_if-local_reads.result.root []) (c.add_root-two.ensures.rows
    ∙ ap (λ l. l ++ with_row c.shot_if-global_writes.result.root []) c.add_root-one.ensures.rows))
    ∙ rows-four c.shot_if-global_reads.result.root c.shot_if-global_writes.result.root c.shot_if-local_reads.result.root c.shot_if-local_writes.result.root)

pub shot_if-local_writes-requires-clause-shows : goal.shot_if-local_writes-requires-clause-shows
shot_if-local_writes-requires-clause-shows c =
    let (s, n, spare, o, few) = c.requires.holds in let h = c.args.self.now in
    (_, _, _, _, show-local-writes h h.pool o.holds.global o.holds.local [] o.holds.kept (omega arith) o.holds.kept.stock)

pub shot_if-local_reads-requires-clause-shows : goal.shot_if-local_reads-requires-clause-shows
shot_if-local_reads-requires-clause-shows c =
    let (s, n, spare, o, few) = c.requires.holds in
    let at = goal.at.shot_if-local_reads-requires-clause-shows c in let l = o.holds.local in let g = o.holds.global in
    let a = one s n spare at.After-shot_if-local_writes o in
    let x : Root = shot_root c.shot_if-local_writes.result (if c.args.local then l.writes else []) in
    (_, _, _, _, show-local-reads c.args.self.now c.shot_if-local_writes.new.pool g l (x ∷ []) o.holds.kept (omega arith) a)

pub shot_if-global_writes-requires-clause-shows : goal.shot_if-global_writes-requires-clause-shows
shot_if-global_writes-requires-clause-shows c =
    let (s, n, spare, o, few) = c.requires.holds in
    let at = goal.at.shot_if-global_writes-requires-clause-shows c in let l = o.holds.local in let g = o.holds.global in
    let a = one s n spare at.After-shot_if-local_writes o in
    let x : Root = shot_root c.shot_if-local_writes.result (if c.args.local then l.writes else []) in
    let b = two s n spare at.After-shot_if-local_reads o x a in
    let y : Root = shot_root c.shot_if-local_reads.result (if c.args.local_write then l.reads else []) in
    (_, _, _, _, show-global-writes c.args.self.now c.shot_if-local_reads.new.pool g l (y ∷ x ∷ []) o.holds.kept (omega arith) b)

pub shot_if-global_reads-requires-clause-shows : goal.shot_if-global_reads-requires-clause-shows
shot_if-global_reads-requires-clause-shows c =
    let (s, n, spare, o, few) = c.requires.holds in
    let at = goal.at.shot_if-global_reads-requires-clause-shows c in let l = o.holds.local in let g = o.holds.global in
    let a = one s n spare at.After-shot_if-local_writes o in
    let x : Root = shot_root c.shot_if-local_writes.result (if c.args.local then l.writes else []) in
    let b = two s n spare at.After-shot_if-local_reads o x a in
    let y : Root = shot_root c.shot_if-local_reads.result (if c.args.local_write then l.reads else []) in
    let d = three s n spare at.After-shot_if-global_writes o y x b in
    let z : Root = shot_root c.shot_if-global_writes.result (if c.args.global then g.writes else []) in
    (_, _, _, _, show-global-reads c.args.self.now c.shot_if-global_writes.new.pool g l (z ∷ y ∷ x ∷ []) o.holds.kept (omega arith) d)

pub split-seat-requires-clause-stock : goal.split-seat-requires-clause-stock
split-seat-requires-clause-stock c =
    let (s, n, spare, o, few) = c.requires.holds in
    let at = goal.at.split-seat-requires-clause-stock c in let l = o.holds.local in let g = o.holds.global in
    let a = one s n spare at.After-shot_if-local_writes o in
    let x : Root = shot_root c.shot_if-local_writes.result (if c.args.local then l.writes else []) in
    let b = two s n spare at.After-shot_if-local_reads o x a in
    let y : Root = shot_root c.shot_if-local_reads.result (if c.args.local_write then l.reads else []) in
    let d = three s n spare at.After-shot_if-global_writes o y x b in
    let z : Root = shot_root c.shot_if-global_writes.result (if c.args.global then g.writes else []) in
    let all = four s n spare at.After-shot_if-global_reads o z y x d in
    let h = c.args.self.now in (
      shot_root c.shot_if-global_reads.result (if c.args.global_write then g.reads else []) ∷ z ∷ y ∷ x ∷ [],
      tree_root h.global.writes g.writes ∷ tree_root h.global.reads g.reads ∷ tree_root h.local.writes l.writes ∷ tree_root h.local.reads l.reads ∷ [],
      _,
      all,
      rows at.After-add_root-all g l,
    )

pub returns-clause-holds : goal.returns-clause-holds
returns-clause-holds c = λ s n spare o few.
    let at = goal.at.returns-clause-holds c in let l = o.holds.local in let g = o.holds.global in
    let a = one s n spare at.After-shot_if-local_writes o in
    let x : Root = shot_root c.shot_if-local_writes.result (if c.args.local then l.writes else []) in
    let b = two s n spare at.After-shot_if-local_reads o x a in
    let y : Root = shot_root c.shot_if-local_reads.result (if c.args.local_write then l.reads else []) in
    let d = three s n spare at.After-shot_if-global_writes o y x b in
    let z : Root = shot_root c.shot_if-global_writes.result (if c.args.global then g.writes else []) in
    let all = four s n spare at.After-shot_if-global_reads o z y x d in
    let h = c.args.self.now in
    let trees : List Root = tree_root h.global.writes g.writes ∷ tree_root h.global.reads g.reads ∷ tree_root h.local.writes l.writes
    ∷ tree_root h.local.reads l.reads ∷ [] in
    let shots : List Root = shot_root c.shot_if-global_reads.result (if c.args.global_write then g.reads else []) ∷ z ∷ y ∷ x ∷ [] in
    let (stock, roots) = c.split-seat.ensures.stock shots trees (g.pending ++ l.pending) all (rows at.After-add_root-all g l) in
    let r1 = c.shot_if-local_writes.ensures.same.1 in let r2 = c.shot_if-local_reads.ensures.same.1 in
    let r3 = c.shot_if-global_writes.ensures.same.1 in let r4 = c.shot_if-global_reads.ensures.same.1 in
    let same = rows-then h.pool c.shot_if-global_reads.new.pool c.split-seat.new.self
    (rows-then h.pool c.shot_if-global_writes.new.pool c.shot_if-global_reads.new.pool
    (rows-then h.pool c.shot_if-local_reads.new.pool c.shot_if-global_writes.new.pool
    (rows-then h.pool c.shot_if-local_writes.new.pool c.shot_if-local_reads.new.pool
    r1 r2) r3) r4) c.split-seat.ensures.same.0 in
    let out = c.shot_if-global_reads.ensures.same.0.1.out ∙ c.shot_if-global_writes.ensures.same.0.1.out ∙ c.shot_if-local_reads.ensures.same.0.1.out
    ∙ c.shot_if-local_writes.ensures.same.0.1.out in
    record {
      holds = record {
        global = g;
        local = l;
        kept = kept-still h c.split-seat.new.self g l o.holds.kept same stock;
        global_reads = o.holds.global_reads;
        global_writes = o.holds.global_writes;
        local_reads = o.holds.local_reads;
        local_writes = o.holds.local_writes;
        out = c.split-seat.ensures.out ∙ ap (λ (l : List (ℕ × ℕ)). suc (length l)) out ∙ ap suc o.holds.out;
      };
      spare = subst (λ (d : Chain). aside_of g + aside_of l + spare ≤ d.len) (sym same.0) o.spare;
    }

pub returns-clause-shots : goal.returns-clause-shots
returns-clause-shots c = λ s shown n spare o few upto writers rest scopes.
    let at = goal.at.returns-clause-shots c in let l = o.holds.local in let g = o.holds.global in
    let a = one s n spare at.After-shot_if-local_writes o in
    let x : Root = shot_root c.shot_if-local_writes.result (if c.args.local then l.writes else []) in
    let b = two s n spare at.After-shot_if-local_reads o x a in
    let y : Root = shot_root c.shot_if-local_reads.result (if c.args.local_write then l.reads else []) in
    let d = three s n spare at.After-shot_if-global_writes o y x b in
    let z : Root = shot_root c.shot_if-global_writes.result (if c.args.global then g.writes else []) in
    let all = four s n spare at.After-shot_if-global_reads o z y x d in
    let h = c.args.self.now in
    let trees : List Root = tree_root h.global.writes g.writes ∷ tree_root h.global.reads g.reads ∷ tree_root h.local.writes l.writes
    ∷ tree_root h.local.reads l.reads ∷ [] in
    let shots : List Root = shot_root c.shot_if-global_reads.result (if c.args.global_write then g.reads else []) ∷ z ∷ y ∷ x ∷ [] in
    let (stock, roots) = c.split-seat.ensures.stock shots trees (g.pending ++ l.pending) all (rows at.After-add_root-all g l) in
    c.new.ensures.shown _ (shows-all h c.split-seat.result.view s shown n spare c.args.id c.args.global c.args.global_write c.args.local c.args.local_write
    c.shot_if-global_reads.result c.shot_if-global_writes.result c.shot_if-local_reads.result c.shot_if-local_writes.result o c.known.ensures roots
    c.split-seat.ensures.seat.0 c.split-seat.ensures.seat.1 upto writers rest scopes)
