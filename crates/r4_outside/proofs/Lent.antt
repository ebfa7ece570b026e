-- What a call does to a device it does to a borrow of it.
use Rattle.std.proofs.Common.{◌≡◌, ℕ, List, ◌∷◌, Result, ap}
use Rattle.std.specs.Borrow.{GName}
use Rattle.r4_base.specs.Image.{Image}
use Rattle.r4_outside.specs.Device.{State, lent_to, Goes, Counts, Reads, Writes, Syncs, IsQuiet, LeavesOnly}

module _ (n : GName) (old new : State) where
  pub lent_goes : Goes old new → Goes (lent_to n old) (lent_to n new)
  lent_goes g = record { blocks = g.blocks; lender = ap (λ ns. n ∷ ns) g.lender; stop = g.stop; reads = g.reads; crashes = g.crashes; time = g.time; faults = g.faults; earlier = g.earlier }

  pub lent_counts : {E : Type 0} (r : Result ℕ E) → Counts old r new → Counts (lent_to n old) r (lent_to n new)
  lent_counts {E} r c = record { goes = lent_goes c.goes; count = c.count; seen = c.seen; clock = c.clock; cause = c.cause }

  pub lent_reads : {T E : Type 0} (at : ℕ) (got : List ℕ) (r : Result T E) → Reads at got old r new → Reads at got (lent_to n old) r (lent_to n new)
  lent_reads {T} {E} at got r c = record { goes = lent_goes c.goes; content = c.content; seen = c.seen; clock = c.clock; cause = c.cause }

  pub lent_writes : {T E : Type 0} (at : ℕ) (block : List ℕ) (r : Result T E) → Writes at block old r new → Writes at block (lent_to n old) r (lent_to n new)
  lent_writes {T} {E} at block r c = record { goes = lent_goes c.goes; seen = c.seen; clock = c.clock; cause = c.cause; no_more = c.no_more; no_less = c.no_less; over = c.over }

  pub lent_syncs : {T E : Type 0} (r : Result T E) → Syncs old r new → Syncs (lent_to n old) r (lent_to n new)
  lent_syncs {T} {E} r c = record { goes = lent_goes c.goes; seen = c.seen; clock = c.clock; cause = c.cause; durable = c.durable; no_more = c.no_more; no_less = c.no_less; over = c.over }

-- What is said of a borrow is so of the device.
pub lent_quiet : (n : GName) (d : State) → IsQuiet d → IsQuiet (lent_to n d)
lent_quiet n d q = record { tells = q.tells; within = q.within }

pub lent_leaves : (n n' : GName) (old new : State) (P : Image → Type 0) → LeavesOnly (lent_to n old) (lent_to n' new) P → LeavesOnly old new P
lent_leaves n n' old new P l = record { each = l.each }

-- one loan goes on as itself alone
pub lent_name : {n m : GName} {ns ms : List GName} → n ∷ ns ≡ m ∷ ms → n ≡ m
lent_name {n} {m} {ns} {ms} same = cc (same)

lent_rest : {n m : GName} {ns ms : List GName} → n ∷ ns ≡ m ∷ ms → ns ≡ ms
lent_rest {n} {m} {ns} {ms} same = cc (same)

-- What goes on as a borrow goes on as a device.
pub goes_lent : (n m : GName) (old new : State) → Goes (lent_to n old) (lent_to m new) → Goes old new
goes_lent n m old new g = record { blocks = g.blocks; lender = lent_rest g.lender; stop = g.stop; reads = g.reads; crashes = g.crashes; time = g.time; faults = g.faults; earlier = g.earlier }
