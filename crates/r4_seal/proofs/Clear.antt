-- A block that nobody holds is one at which no task was given a cell; and an atom of which no open transaction is counted
-- has none.
use Rattle.std.proofs.Common.{◌≡◌, ⊎_elim, ℕ, ◌-◌, ◌==◌, ◌&&◌, ◌++◌, Bool, true, false, cond, List, [], ◌∷◌}
use Rattle.std.proofs.Common.{Option, Some, None, refl, sym, ◌∙◌, ap, subst, arith}
use Rattle.std.specs.Prelude.{Contains, is_some}
use Rattle.std.specs.Option.{option_map}
use Rattle.std.proofs.lemmas.Bool.{eq-eqb, or_left, or_right}
use Rattle.std.proofs.lemmas.List.Elements.{Contains-append_cases}
use Rattle.r4_atoms.specs.Atoms.{AtomsSeen, IsClosedAtom, IsOpenIn, is_open_in, no_txn, numbers, txn_of}
use Rattle.r4_base.proofs.Members.{member_cases, no_member}
use Rattle.r4_base.specs.declared.things.NodeId.{NodeId}
use Rattle.r4_cell.specs.Seen.{CellSeen}
use Rattle.r4_core.specs.r4_history.Held.{IsOut, TasksTell, names_of, need_of}
use Rattle.r4_core.specs.r4_history.Tables.{Tables}
use Rattle.r4_locks.proofs.Counts.{count_at}
use Rattle.r4_locks.specs.Locks.{LocksSeen, TaskSeen, is_named, mode_in, mode_of, mode_with, readers, writers}
use Rattle.r4_locks.specs.Modes.{is_reading, is_writing, joined}
use Rattle.r4_locks.specs.declared.things.Mode.{Mode}
use Rattle.r4_locks.specs.declared.things.Mode.TheVariants.{Reads, Writes}
use Rattle.r4_turns.specs.declared.out.Out.{Out}
use Rattle.r4_core.proofs.r4_wander.Members.{in_map}

-- ---- holds

not_held : (t : LocksSeen) (task node : ℕ) (mode : Mode) → readers t.tasks node ≡ 0 → writers t.tasks node ≡ 0
    → mode_of t task node ≡ Some mode → ⊥
not_held t task node Reads none_read none_write is =
    let one = count_at (λ (x : Option TaskSeen). is_reading (mode_in x node)) None refl t.tasks task (ap is_reading is) in
    absurd (omega (arith, one, none_read))
not_held t task node Writes none_read none_write is =
    let one = count_at (λ (x : Option TaskSeen). is_writing (mode_in x node)) None refl t.tasks task (ap is_writing is) in
    absurd (omega (arith, one, none_write))

named_there : (names : List NodeId) (node : ℕ) → Contains (numbers names) node → is_named names node ≡ true
named_there [] node has = absurd (no_member node has)
named_there (x ∷ names) node has = ⊎_elim
    (λ here. or_left (x.0 == node) (is_named names node) (eq-eqb x.0 node (sym here)))
    (λ later. or_right (x.0 == node) (is_named names node) (named_there names node later))
    (member_cases x.0 (numbers names) node has)

held : (t : LocksSeen) (task node : ℕ) (mode : Option Mode) → readers t.tasks node ≡ 0 → writers t.tasks node ≡ 0
    → mode_of t task node ≡ mode → mode ≡ None
held t task node None none_read none_write is = refl
held t task node (Some mode) none_read none_write is =
    absurd (not_held t task node mode none_read none_write is)

none_named : (wanted : Mode) (names : List NodeId) (node : ℕ) (mode : Option Mode)
    → mode_with wanted names node mode ≡ None → (is_named names node ≡ false) × (mode ≡ None)
none_named wanted names node mode none = by (is_named names node) refl none
  where
    by : (b : Bool) → is_named names node ≡ b → cond b (Some (joined mode wanted)) mode ≡ None
        → (is_named names node ≡ false) × (mode ≡ None)
    by true at is = absurd (cc is)
    by false at is = (at, is)

pub none_given : (t : Tables) (locks : LocksSeen) → TasksTell t locks → (block : ℕ)
    → readers locks.tasks block ≡ 0 → writers locks.tasks block ≡ 0 → (s : ℕ) (out : Out) (x : CellSeen)
    → IsOut t.turns s out → Contains (out.reads ++ out.writes) x → x.id ≡ block → ⊥
none_given t locks tells block none_read none_write s out x is has at =
    let h = tells.held.holds s out is in
    let none =
    sym (h.modes block) ∙ held locks out.task.0 block (mode_of locks out.task.0 block) none_read none_write refl in
    let (not_read, rest) =
    none_named Reads (need_of out).reads block (mode_with Writes (need_of out).writes block None) none in
    let (not_written, _) = none_named Writes (need_of out).writes block None rest in
    ⊎_elim
    (λ read. cc (sym (named_there (need_of out).reads block (among out.reads x read at)) ∙ not_read))
    (λ written. cc (sym (named_there (need_of out).writes block (among out.writes x written at)) ∙ not_written))
    (Contains-append_cases out.reads out.writes x has)
  where
    among : (cells : List CellSeen) (x : CellSeen) → Contains cells x → x.id ≡ block
        → Contains (numbers (names_of cells)) block
    among cells x has at =
        subst (Contains (numbers (names_of cells))) at
        (in_map (λ (n : NodeId). n.0) (names_of cells) (record { 0 = x.id })
        (in_map (λ (y : CellSeen). record { 0 = y.id }) cells x has))

-- ---- open transactions

pub none_open : (s : AtomsSeen) (a : ℕ) → IsClosedAtom s a → (t : ℕ) → IsOpenIn s a t → ⊥
none_open s a closed t is =
    let on : is_open_in a (txn_of s t) ≡ true =
    and_both (txn_of s t).is_open ((txn_of s t).atom == a) is.opened (eq-eqb (txn_of s t).atom a is.atom) in
    let one = count_at (is_open_in a) no_txn refl s.txns (t - 1) on in
    let none = closed.none in
    absurd (omega (arith, one, none))
  where
    and_both : (p q : Bool) → p ≡ true → q ≡ true → (p && q) ≡ true
    and_both true q e f = f
    and_both false q e f = absurd (cc e)

-- ---- nothing stands there

pub none_kept : {Z A B C : Type 0} (h : Z → A) (f : A → C) (g : B → C) (q : Option Z) (o : Option B)
    → option_map f (option_map h q) ≡ option_map g o → false ≡ is_some q → o ≡ None
none_kept h f g None None e none = refl
none_kept h f g None (Some b) e none = absurd (cc e)
none_kept h f g (Some a) o e none = absurd (cc none)

pub none_named_so : {A C : Type 0} (f : A → C) (q : Option A) (o : Option C) → option_map f q ≡ o → false ≡ is_some q
    → o ≡ None
none_named_so f None o e none = sym e
none_named_so f (Some a) o e none = absurd (cc none)
