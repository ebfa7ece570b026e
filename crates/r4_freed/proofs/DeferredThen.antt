-- As a task is done just those blocks are deferred whose cells are gone, and what is known of a commit goes along.
use Rattle.std.proofs.Common.{◌≡◌, ◌≢◌, ◌↔◌, ⊎_elim, inl, inr, ℕ, ◌<◌, ◌≤◌, ◌^◌, ◌&&◌, ◌||◌, ◌==◌, Bool, true, false, not}
use Rattle.std.proofs.Common.{cond, List, [], ◌∷◌, Option, Some, None, Contains, refl, sym, ◌∙◌, ap, subst, arith}
use Rattle.std.specs.Prelude.{nat_le}
use Rattle.std.proofs.Math.Decide.{ℕ_discrete}
use Rattle.std.proofs.lemmas.Bool.{and_parts, cases_Bool, eq-eqb, eqb-true, leb-false, or_cases, or_left, or_right}
use Rattle.std.proofs.lemmas.Bool.Decides.{nat_tests}
use Rattle.std.proofs.lemmas.Option.{none-some, same_Some}
use Rattle.r4_accounting.specs.Accounting.{freed, frees, is_fresh}
use Rattle.r4_base.specs.Tree.{Node}
use Rattle.r4_base.specs.Value.{Value}
use Rattle.r4_base.specs.declared.things.AtomNo.{AtomNo}
use Rattle.r4_base.specs.declared.things.ScriptNo.{ScriptNo}
use Rattle.r4_base.specs.declared.things.TxnNo.{TxnNo}
use Rattle.r4_accounting.specs.r4_buffer.Changed.{has_name}
use Rattle.r4_accounting.specs.r4_cell.Patch.{IsChange, by_name, patch_of}
use Rattle.r4_accounting.specs.r4_cell.Seen.{CellSeen, node_of}
use Rattle.r4_accounting.specs.r4_cell.declared.change.Root.{Root as RootPair}
use Rattle.r4_content.specs.Locality.{commands}
use Rattle.r4_content.specs.Meaning.{greatest_size}
use Rattle.r4_content.specs.declared.command.Command.{Command}
use Rattle.r4_accounting.specs.r4_flushed.Deferred.{AreDeferred, AreDeferredBut, IsDeferred}
use Rattle.r4_accounting.specs.r4_flushed.Flushed.{IsGone, OwnsBlocks}
use Rattle.r4_accounting.proofs.r4_patch.Members.{distinct, there}
use Rattle.r4_accounting.specs.r4_sets.Change.{IsFree as IsFreeFor}
use Rattle.r4_accounting.specs.r4_sets.Session.{Session, Sets}
use Rattle.r4_space.specs.Space.{Space, charged, claims_of, is_claimed, is_taken}
use Rattle.r4_space.specs.declared.things.Claim.{Claim}
use Rattle.r4_accounting.specs.r4_trace.Traced.{atom_in}
use Rattle.r4_accounting.specs.r4_turns.declared.out.Numbers.{Numbers}
use Rattle.r4_accounting.specs.r4_kept.declared.parts.Commit.{Commit}
use Rattle.r4_accounting.specs.r4_taking.Following.{Follows}
use Rattle.r4_accounting.specs.r4_done.Right.{session_done}
use Rattle.r4_accounting.proofs.r4_done.DoneMeaning.{comes, goes_away, stays, touches_is}
use Rattle.r4_accounting.proofs.r4_done.DoneRun.{old_under}
use Rattle.r4_accounting.proofs.r4_done.DoneTables.{is_touched}
use Rattle.r4_accounting.proofs.r4_done.DoneTasks.{AreNumbered}
use Rattle.r4_accounting.proofs.r4_done.Named.{one_named, one_of_ids}
use Rattle.r4_freed.specs.Freed.{HasFreed}
use Rattle.r4_freed.proofs.FreedClaims.{alike, gone, later_still, others_stay, own_then}
use Rattle.r4_freed.proofs.UsedCells.{StandOnUsed}

-- ---- the cells that go

-- The cell goes, and its name is that of a used block.
record IsGoing (s : Space) (old new : List CellSeen) (k : ℕ) : Type 0 where
  was : has_name old k ≡ true
  none_new : has_name new k ≡ false
  used : is_taken s k ≡ true
  block : k < 2 ^ 63

module _ (s : Space) (new : List CellSeen) where
  going_more : (x : CellSeen) (old : List CellSeen) (k : ℕ) → IsGoing s old new k → IsGoing s (x ∷ old) new k
  going_more x old k h = record {
    was = or_right (x.id == k) (has_name old k) h.was;
    none_new = h.none_new;
    used = h.used;
    block = h.block;
  }

  goes : (x : CellSeen) (old : List CellSeen) (k : ℕ) → frees s new x ≡ true → x.id ≡ k → IsGoing s (x ∷ old) new k
  goes x old k on same =
      let (low, rest) = and_parts (not (is_fresh x)) (not (has_name new x.id) && is_taken s x.id) on in
      let (off, used) = and_parts (not (has_name new x.id)) (is_taken s x.id) rest in
      record {
        was = or_left (x.id == k) (has_name old k) (eq-eqb x.id k same);
        none_new = ap (has_name new) (sym same) ∙ not_so (has_name new x.id) off;
        used = ap (is_taken s) (sym same) ∙ used;
        block = let small = below (not_so (nat_le (2 ^ 63) x.id) low) in omega (arith, small, same);
      }
    where
      not_so : (b : Bool) → not b ≡ true → b ≡ false
      not_so true e = absurd (let f : false ≡ true = e in cc)
      not_so false e = refl

      below : nat_le (2 ^ 63) x.id ≡ false → x.id < 2 ^ 63
      below e = leb-false (2 ^ 63) x.id e

  -- one that is freed goes
  freed_is : (old : List CellSeen) (k : ℕ) → has_name (freed s old new) k ≡ true → IsGoing s old new k
  freed_is [] k on = absurd (let f : false ≡ true = on in cc)
  freed_is (x ∷ old) k on = by (λ h. freed_is old k h) (frees s new x) refl on
    where
      by : (has_name (freed s old new) k ≡ true → IsGoing s old new k) → (t : Bool) → frees s new x ≡ t
          → has_name (cond (frees s new x) (x ∷ freed s old new) (freed s old new)) k ≡ true
          → IsGoing s (x ∷ old) new k
      by less true e h = elim (or_cases (x.id == k) (has_name (freed s old new) k)
          (sym (ap (λ (b : Bool). has_name (cond b (x ∷ freed s old new) (freed s old new)) k) e) ∙ h)) [
            | inl here ↦ goes x old k e (eqb-true x.id k here)
            | inr later ↦ going_more x old k (less later)
          ]
      by less false e h =
          going_more x old k
          (less (sym (ap (λ (b : Bool). has_name (cond b (x ∷ freed s old new) (freed s old new)) k) e) ∙ h))

  -- and each that goes is freed
  is_freed : (old : List CellSeen) (k : ℕ) → IsGoing s old new k → has_name (freed s old new) k ≡ true
  is_freed [] k h = absurd (let f : false ≡ true = h.was in cc)
  is_freed (x ∷ old) k h = elim (cases_Bool (x.id == k)) [
    | inl here ↦
        let same = eqb-true x.id k here in
        let low = h.block in
        let fresh : is_fresh x ≡ false = lt-leb-false x.id same low in
        let on : frees s new x ≡ true =
        rw (fresh, ap (has_name new) same ∙ h.none_new, ap (is_taken s) same ∙ h.used) refl in
        ap (λ (b : Bool). has_name (cond b (x ∷ freed s old new) (freed s old new)) k) on
        ∙ or_left (x.id == k) (has_name (freed s old new) k) here
    | inr other ↦
        let rest : IsGoing s old new k = record {
          was = sym (ap (λ (b : Bool). b || has_name old k) other) ∙ h.was;
          none_new = h.none_new;
          used = h.used;
          block = h.block;
        } in
        more (frees s new x) (is_freed old k rest)
  ]
    where
      lt-leb-false : (n : ℕ) → n ≡ k → k < 2 ^ 63 → nat_le (2 ^ 63) n ≡ false
      lt-leb-false n same low = let lt : n < 2 ^ 63 = omega (arith, same, low) in grind (arith, nat_tests, lt)

      more : (b : Bool) → has_name (freed s old new) k ≡ true
          → has_name (cond b (x ∷ freed s old new) (freed s old new)) k ≡ true
      more true rest = or_right (x.id == k) (has_name (freed s old new) k) rest
      more false rest = rest

module _ (was : Session) (sets : Sets (commands greatest_size) was) (owns : OwnsBlocks was) (old new : List CellSeen)
    (root : Option RootPair) (is : IsChange old new root)
    (has_old : (i : ℕ) (n : Node Value) → by_name old i ≡ Some n → was.memory i ≡ Some n) (numbers : Numbers)
    (least : 2 ^ 63 ≤ numbers.fresh.next) (numbered : AreNumbered old new numbers) (u : TxnNo) (script : ScriptNo)
    (index : ℕ) (x : Command)
    (free : (i : ℕ) → is_touched old new i ≡ true → IsFreeFor was (atom_in was.trace u.0) i)
    (fresh : (i : ℕ) → numbers.fresh.next ≤ i → i < numbers.fresh.end → was.owner i ≡ None) (s later : Space)
    (atom : AtomNo) (own : atom_in was.trace u.0 ≡ atom.0) (cells_now fresh_now : ℕ)
    (h : HasFreed s later atom cells_now fresh_now old new) (count : s.block_count ≤ 2 ^ 63)
    (used : StandOnUsed was s) where
  abbrev now : Session
  now = session_done was u script index x (patch_of old new root)

  owner_in : (i : ℕ) → is_touched old new i ≡ true → now.owner i ≡ Some atom.0
  owner_in i hit =
      ap (λ (t : Bool). cond t (Some (atom_in was.trace u.0)) (was.owner i)) (touches_is old new root is was.memory i ∙ hit)
      ∙ ap (λ (n : ℕ). Some n) own

  owner_out : (i : ℕ) → is_touched old new i ≡ false → now.owner i ≡ was.owner i
  owner_out i miss =
      ap (λ (t : Bool). cond t (Some (atom_in was.trace u.0)) (was.owner i)) (touches_is old new root is was.memory i ∙ miss)

  memory_out : (i : ℕ) → is_touched old new i ≡ false → now.memory i ≡ was.memory i
  memory_out i miss =
      stays old new root is was.memory i (last_false (has_name old i) (has_name new i) miss)
      (first_false (has_name old i) (has_name new i) miss)
    where
      first_false : (a b : Bool) → (a || b) ≡ false → a ≡ false
      first_false true b e = e
      first_false false b e = refl

      last_false : (a b : Bool) → (a || b) ≡ false → b ≡ false
      last_false true b e = absurd (let f : true ≡ false = e in cc)
      last_false false b e = e

  -- what was gone and is touched would be in memory, or have no block
  gone_untouched : (a : AtomNo) (b : ℕ) → IsGone was a was.under.cells b → is_touched old new b ≡ false
  gone_untouched a b g = elim (cases_Bool (is_touched old new b)) [
    | inr miss ↦ miss
    | inl hit ↦ ⊎_elim
        (λ one. (let y = one_named old b one in absurd (there_still y.0 y.1 y.2)))
        (λ two.
        (let y = one_named new b two in
        ⊎_elim
        (λ of_old. (let z = one_of_ids old y.0.id of_old in absurd (there_still z.0 z.1 (z.2 ∙ y.2))))
        (λ number.
        absurd (none-some a.0 (sym (subst (λ (j : ℕ). was.owner j ≡ None) y.2 (fresh y.0.id number.0 number.1)) ∙ g.own)))
        (numbered y.0 y.1))) (or_cases (has_name old b) (has_name new b) hit)
  ]
    where
      there_still : (y : CellSeen) → Contains old y → y.id ≡ b → ⊥
      there_still y has named =
          none-some (node_of y) (sym g.gone ∙ has_old b (node_of y)
          (subst (λ (j : ℕ). by_name old j ≡ Some (node_of y)) named
          (there old y
          (distinct old is.old_names) has)))

  -- of another atom the same is gone
  gone_other : (a : AtomNo) (b : ℕ) → a.0 ≢ atom.0 → IsGone was a was.under.cells b ↔ IsGone now a now.under.cells b
  gone_other a b unlike = (
    λ g.
        (let miss = gone_untouched a b g in
        record { own = owner_out b miss ∙ g.own; gone = memory_out b miss ∙ g.gone; was = g.was }),
    λ g. elim (cases_Bool (is_touched old new b)) [
      | inl hit ↦ absurd (unlike (sym (same_Some atom.0 a.0 (sym (owner_in b hit) ∙ g.own))))
      | inr miss ↦ record {
        own = sym (owner_out b miss) ∙ g.own;
        gone = sym (memory_out b miss) ∙ g.gone;
        was = g.was;
      }
    ],
  )

  -- of this atom what was gone, and the old cells that go and stand under the open atoms
  gone_own : (b : ℕ) → IsDeferred s atom b ↔ IsGone was atom was.under.cells b
      → IsDeferred later atom b ↔ IsGone now atom now.under.cells b
  gone_own b (to, from) = (
    λ claimed. elim (or_cases (is_claimed (claims_of atom s.deferred) b)
        (has_name (gone s later atom cells_now fresh_now old new h) b)
        (sym (own_then s later atom cells_now fresh_now old new h b) ∙ claimed)) [
          | inl before ↦
              let g = to before in
              let miss = gone_untouched atom b g in
              record { own = owner_out b miss ∙ g.own; gone = memory_out b miss ∙ g.gone; was = g.was }
          | inr went ↦
              let g = freed_is (charged s atom cells_now fresh_now) new old b went in
              let y = one_named old b g.was in
              record {
                own = owner_in b (or_left (has_name old b) (has_name new b) g.was);
                gone = goes_away old new root is was.memory b g.none_new g.was;
                was = old_under was sets owns old new root is has_old numbers least numbered b g.block y.0 y.1 y.2;
              }
        ],
    λ g. own_then s later atom cells_now fresh_now old new h b ∙ elim (cases_Bool (is_touched old new b)) [
      | inr miss ↦
          or_left (is_claimed (claims_of atom s.deferred) b)
          (has_name (gone s later atom cells_now fresh_now old new h) b)
          (from (record {
            own = sym (owner_out b miss) ∙ g.own;
            gone = sym (memory_out b miss) ∙ g.gone;
            was = g.was;
          }))
      | inl hit ↦
          or_right (is_claimed (claims_of atom s.deferred) b)
          (has_name (gone s later atom cells_now fresh_now old new h) b) (went_now g hit)
    ],
  )
    where
      -- a new cell would be in memory
      none_new : now.memory b ≡ None → has_name new b ≡ false
      none_new none = elim (cases_Bool (has_name new b)) [
        | inr off ↦ off
        | inl here ↦
            let y = one_named new b here in
            absurd (none-some (node_of y.0) (sym none ∙ subst (λ (j : ℕ). now.memory j ≡ Some (node_of y.0)) y.2
            (comes old new root is was.memory y.0 y.1)))
      ]

      went_now : IsGone now atom now.under.cells b → is_touched old new b ≡ true
          → has_name (gone s later atom cells_now fresh_now old new h) b ≡ true
      went_now g hit =
          let off = none_new g.gone in
          let on : has_name old b ≡ true =
          ⊎_elim (λ one. one) (λ two. absurd (let f : true ≡ false = sym two ∙ off in cc))
          (or_cases (has_name old b) (has_name new b) hit) in
          let (n, at) = g.was in
          let stands = used b n at in
          let below = stands.below in
          is_freed (charged s atom cells_now fresh_now) new old b (record {
            was = on;
            none_new = off;
            used = stands.used;
            block = omega (arith, below, count);
          })

  -- ---- all atoms

  along : (a : AtomNo) (b : ℕ) → a.0 ≢ atom.0 → IsDeferred s a b ↔ IsGone was a was.under.cells b
      → IsDeferred later a b ↔ IsGone now a now.under.cells b
  along a b unlike (to, from) =
      let (on, back) = gone_other a b unlike in
      let same = ap (λ (l : List Claim). is_claimed l b) (others_stay s later atom cells_now fresh_now old new h a unlike) in (
        λ claimed. on (to (sym same ∙ claimed)),
        λ g. same ∙ from (back g),
      )

  defers : AreDeferred was s → AreDeferred now later
  defers were a b = elim (ℕ_discrete a.0 atom.0) [
    | yes same ↦
        subst (λ (o : AtomNo). IsDeferred later o b ↔ IsGone now o now.under.cells b) (number_is atom a (sym same))
        (gone_own b (were atom b))
    | no unlike ↦ along a b unlike (were a b)
  ]
    where
      number_is : (o q : AtomNo) → o.0 ≡ q.0 → o ≡ q
      number_is o q same = ap (λ (n : ℕ). record { 0 = n }) same

  but : (other : AtomNo) → other.0 ≢ atom.0 → AreDeferredBut other was s → AreDeferredBut other now later
  but other unlike were = record {
    others = λ a b apart. elim (ℕ_discrete a.0 atom.0) [
      | yes same ↦
          subst (λ (o : AtomNo). IsDeferred later o b ↔ IsGone now o now.under.cells b) (number_is atom a (sym same))
          (gone_own b (were.others atom b (λ e. unlike (sym e))))
      | no differ ↦ along a b differ (were.others a b apart)
    ];
    none = λ b owned. elim (cases_Bool (is_touched old new b)) [
      | inl hit ↦ unlike (sym (same_Some atom.0 other.0 (sym (owner_in b hit) ∙ owned)))
      | inr miss ↦ were.none b (sym (owner_out b miss) ∙ owned)
    ];
  }
    where
      number_is : (o q : AtomNo) → o.0 ≡ q.0 → o ≡ q
      number_is o q same = ap (λ (n : ℕ). record { 0 = n }) same

  -- what is known of the space and of the commit under way goes along
  pub follows : (commit : Option Commit) → ((k : Commit) → commit ≡ Some k → k.atom.0 ≢ atom.0)
      → Follows commit was now s later
  follows commit others = record {
    defers = defers;
    alike = alike s later atom cells_now fresh_now old new h;
    lawful = h.lawful;
    under_way = λ k some. record {
      but = but k.atom (others k some);
      on = later_still s later atom cells_now fresh_now old new h k.atom (others k some);
    };
  }
