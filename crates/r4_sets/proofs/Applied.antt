-- A command that is applied keeps what each set of open atoms means.
use Rattle.std.specs.Prelude.{◌≡◌, ◌⊎◌, ℕ, ◌<◌, ◌≤◌, Bool, true, false, ◌||◌, cond, ◌∷◌, Some, None, IsSome}
use Rattle.std.proofs.Common.{inl, inr, refl, sym, ap, subst, ◌∙◌}
use Rattle.std.specs.Option.{unwrap_or}
use Rattle.std.proofs.lemmas.Option.{none-some, same_Some}
use Rattle.r4_base.specs.Key.{least, top}
use Rattle.r4_base.specs.Value.{Value}
use Rattle.r4_base.specs.Tree.{Root}
use Rattle.r4_patch.specs.r4_cell.Patch.{Patch, Meets, over, place, root_after}
use Rattle.r4_patch.proofs.Placed.{root_or_not, some_of}
use Rattle.r4_content.specs.Edited.{is_in}
use Rattle.r4_content.specs.Locality.{IsLocal, Meaning}
use Rattle.r4_sets.specs.Change.{Applies, Does, IsFree, applied, owned, touches}
use Rattle.r4_content.specs.declared.command.Command.{Command}
use Rattle.r4_content.specs.declared.reply.Reply.{Reply}
use Rattle.r4_base.specs.declared.things.ScriptNo.{ScriptNo}
use Rattle.r4_base.specs.declared.things.TxnNo.{TxnNo}
use Rattle.r4_trace.specs.declared.entry.Entry.{Entry}
use Rattle.r4_trace.specs.declared.entry.Entry.TheVariants.{Done}
use Rattle.r4_trace.specs.Folds.{content_of, everything}
use Rattle.r4_trace.specs.Traced.{atom_in, committed_in, sealed_in}
use Rattle.r4_trace.proofs.FirstOnes.{not_first}
use Rattle.r4_sets.specs.Session.{IsTreeOf, Session, Sets, Stands, all_done, cells, in_base, in_set, in_under, picks}
use Rattle.r4_sets.specs.Session.{root_with}
use Rattle.r4_sets.proofs.Carried.{true_or_false}
use Rattle.r4_sets.proofs.Cells.{IsShared}
use Rattle.r4_sets.proofs.Choosing.{pick_all, pick_free, pick_other, stands_at, stands_skips, stands_takes, touches_new}
use Rattle.r4_sets.proofs.Choosing.{touches_old, untouched_place}
use Rattle.r4_sets.proofs.Goes.{finds_alike, goes, reply_alike}

or_everything : (b : Bool) → (b || true) ≡ true
or_everything true = refl
or_everything false = refl

module _ (w : Meaning Command Reply) (c : Session) (sets : Sets w c) where
  -- a root of no open atom is the root under them
  pub root_clean : c.owner c.root.id ≡ None → c.root ≡ c.under.root
  root_clean none = elim sets.one_root [
    | inl e ↦ e
    | inr h ↦ let (n, is, _) =
        h in absurd (none-some n (sym none ∙ is))
  ]

  pub root_below : c.owner c.under.root.id ≡ None → c.root ≡ c.under.root
  root_below none = elim sets.one_root [
    | inl e ↦ e
    | inr h ↦ let (n, _, is) =
        h in absurd (none-some n (sym none ∙ is))
  ]

  -- the tree in memory is that of all open atoms
  pub memory_cells : cells c everything ≡ c.memory
  memory_cells j i = pick_all (c.owner i) (c.memory i) (c.under.cells i) (sets.clean i) j

  pub memory_root : root_with c everything ≡ c.root
  memory_root = pick_all (c.owner c.root.id) c.root c.under.root root_clean

  every_txn : in_set c everything ≡ everything
  every_txn j t = or_everything (in_under c t) j

  pub memory_stands : Stands w c.start c.trace everything c.memory c.root
  memory_stands = stands_at w c.start c.trace (in_set c everything) everything (cells c everything) c.memory
      (root_with c everything) c.root every_txn memory_cells memory_root (sets.each everything)

module _ (w : Meaning Command Reply) (local : IsLocal w) (c : Session) (sets : Sets w c) (txn : TxnNo)
    (script : ScriptNo) (index : ℕ) (x : Command) (d : Patch Value) (a : Applies w c txn.0 x d) where
  abbrev n : ℕ
  n = atom_in c.trace txn.0

  abbrev newest : Entry
  newest = Done txn script index x (w.reply x (all_done w c))

  in_memory : IsTreeOf c.memory c.root (all_done w c)
  in_memory = (memory_stands w c sets).is

  does : Does w x c.memory c.root (all_done w c) d a.touched a.changed
  does = a.does

  -- ---- a cell that the atom may touch

  free_is : (s : ℕ → Bool) (i : ℕ) → s n ≡ true → IsFree c n i → cells c s i ≡ c.memory i
  free_is s i e f = pick_free s n (c.owner i) (c.memory i) (c.under.cells i) e f (sets.clean i)

  old_root : IsSome d.root → touches d c.root.id ≡ true
  old_root h = let (o, e) = does.meets.root_old h in touches_old d c.root.id o e

  new_root : (r : Root) → d.root ≡ Some r → touches d r.id ≡ true
  new_root r e = let new = does.patch.new_root r e in touches_new d r.id new.node new.is

  root_is : (s : ℕ → Bool) → s n ≡ true → touches d c.root.id ≡ true → root_with c s ≡ c.root
  root_is s e h = pick_free s n (c.owner c.root.id) c.root c.under.root e (a.own c.root.id h) (root_clean w c sets)

  meets : (s : ℕ → Bool) → s n ≡ true → Meets d (cells c s) (root_with c s)
  meets s e = record {
    has_old = λ i o h. free_is s i e (a.own i (touches_old d i o h)) ∙ does.meets.has_old i o h;
    free = λ i o h gone. free_is s i e (a.own i (touches_new d i o h)) ∙ does.meets.free i o h gone;
    root_old = λ h. let (o, g) = does.meets.root_old h in
        (o, subst (λ r. d.old r.id ≡ Some o) (sym (root_is s e (old_root h))) g);
  }

  reach : (s : ℕ → Bool) → s n ≡ true → (k : ℕ) → is_in a.touched k ≡ true → least ≤ k → k < top
      → IsShared (cells c s) c.memory k
  reach s e k h from to =
      let (i, o, there, holds, f) = a.reach k h from to in
      (i, o, free_is s i e f ∙ there, there, holds)

  -- ---- the session after

  owner_on : (i : ℕ) → touches d i ≡ true → owned n d c.owner i ≡ Some n
  owner_on i e = ap (λ b. cond b (Some n) (c.owner i)) e

  owner_off : (i : ℕ) → touches d i ≡ false → owned n d c.owner i ≡ c.owner i
  owner_off i e = ap (λ b. cond b (Some n) (c.owner i)) e

  -- a cell that is not touched is as before
  cell_off : (s : ℕ → Bool) (i : ℕ) → touches d i ≡ false → cells (applied w c txn script index x d) s i ≡ cells c s i
  cell_off s i e = ap (λ o. cond (picks s o) (place d c.memory i) (c.under.cells i)) (owner_off i e)
      ∙ ap (λ q. cond (picks s (c.owner i)) q (c.under.cells i)) (untouched_place d c.memory i e)

  cell_with : (s : ℕ → Bool) (i : ℕ) → s n ≡ true → cells (applied w c txn script index x d) s i ≡ place d (cells c s) i
  cell_with s i e = elim (true_or_false (touches d i)) [
    | inr off ↦ cell_off s i off ∙ sym (untouched_place d (cells c s) i off)
    | inl on ↦
        ap (λ o. cond (picks s o) (place d c.memory i) (c.under.cells i)) (owner_on i on)
        ∙ ap (λ b. cond b (place d c.memory i) (c.under.cells i)) e
        ∙ ap (over (d.new i) (d.old i)) (sym (free_is s i e (a.own i on)))
  ]

  cell_without : (s : ℕ → Bool) (i : ℕ) → s n ≡ false → cells (applied w c txn script index x d) s i ≡ cells c s i
  cell_without s i e = elim (true_or_false (touches d i)) [
    | inr off ↦ cell_off s i off
    | inl on ↦
        ap (λ o. cond (picks s o) (place d c.memory i) (c.under.cells i)) (owner_on i on)
        ∙ ap (λ b. cond b (place d c.memory i) (c.under.cells i)) e
        ∙ sym (pick_other s n (c.owner i) (c.memory i) (c.under.cells i) e (a.own i on))
  ]

  -- the root pair where it stays, and where it changes
  root_stays : d.root ≡ None → root_after d c.root ≡ c.root
  root_stays e = ap (λ o. unwrap_or o c.root) e

  root_moves : (r : Root) → d.root ≡ Some r → root_after d c.root ≡ r
  root_moves r e = ap (λ o. unwrap_or o c.root) e

  -- by the root pair in memory
  root_by : (ℕ → Bool) → Root → Root
  root_by s r = cond (picks s (owned n d c.owner r.id)) r c.under.root

  root_off : (s : ℕ → Bool) → touches d c.root.id ≡ false → root_by s c.root ≡ root_with c s
  unfolding root_by
  root_off s e = ap (λ o. cond (picks s o) c.root c.under.root) (owner_off c.root.id e)

  root_on : (s : ℕ → Bool) (r : Root) → touches d r.id ≡ true → root_by s r ≡ cond (s n) r c.under.root
  unfolding root_by
  root_on s r e = ap (λ o. cond (picks s o) r c.under.root) (owner_on r.id e)

  root_here : (s : ℕ → Bool) → root_with (applied w c txn script index x d) s ≡ root_by s (root_after d c.root)
  unfolding root_by
  root_here s = refl

  root_with_it : (s : ℕ → Bool) → s n ≡ true → root_with (applied w c txn script index x d) s
      ≡ root_after d (root_with c s)
  root_with_it s e = root_here s ∙ elim (root_or_not d.root) [
    | inl h ↦
        let (r, is) = h in
        ap (root_by s) (root_moves r is) ∙ root_on s r (new_root r is) ∙ ap (λ b. cond b r c.under.root) e
        ∙ sym (ap (λ o. unwrap_or o (root_with c s)) is)
    | inr none ↦
        ap (root_by s) (root_stays none)
        ∙ elim (true_or_false (touches d c.root.id)) [
          | inr off ↦ root_off s off
          | inl on ↦ root_on s c.root on ∙ ap (λ b. cond b c.root c.under.root) e ∙ sym (root_is s e on)
        ]
        ∙ sym (ap (λ o. unwrap_or o (root_with c s)) none)
  ]

  root_without : (s : ℕ → Bool) → s n ≡ false → root_with (applied w c txn script index x d) s ≡ root_with c s
  root_without s e = root_here s ∙ elim (root_or_not d.root) [
    | inl h ↦
        let (r, is) = h in
        ap (root_by s) (root_moves r is) ∙ root_on s r (new_root r is) ∙ ap (λ b. cond b r c.under.root) e
        ∙ sym (untouched_root (old_root (some_of d.root r is)))
    | inr none ↦
        ap (root_by s) (root_stays none)
        ∙ elim (true_or_false (touches d c.root.id)) [
          | inr off ↦ root_off s off
          | inl on ↦ root_on s c.root on ∙ ap (λ b. cond b c.root c.under.root) e ∙ sym (untouched_root on)
        ]
  ]
    where
      untouched_root : touches d c.root.id ≡ true → root_with c s ≡ c.under.root
      untouched_root on = pick_other s n (c.owner c.root.id) c.root c.under.root e (a.own c.root.id on)

  -- ---- its sets

  clean_after : (i : ℕ) → owned n d c.owner i ≡ None → place d c.memory i ≡ c.under.cells i
  clean_after i none = elim (true_or_false (touches d i)) [
    | inl on ↦ absurd (none-some n (sym none ∙ owner_on i on))
    | inr off ↦ untouched_place d c.memory i off ∙ sets.clean i (sym (owner_off i off) ∙ none)
  ]

  -- who has a cell keeps it
  still : (i q : ℕ) → c.owner i ≡ Some q → owned n d c.owner i ≡ Some q
  still i q is = elim (true_or_false (touches d i)) [
    | inr off ↦ owner_off i off ∙ is
    | inl on ↦ owner_on i on ∙ ap Some
        (elim (a.own i on) [ inl none ↦ absurd (none-some q (sym none ∙ is)) | inr e ↦ same_Some n q (sym e ∙ is) ])
  ]

  abbrev OneRoot : Root → Type 0
  OneRoot r = (r ≡ c.under.root)
      ⊎ ((q : ℕ) × (owned n d c.owner r.id ≡ Some q) × (owned n d c.owner c.under.root.id ≡ Some q))

  one_root_at : OneRoot (root_after d c.root)
  one_root_at = elim (root_or_not d.root) [
    | inr e ↦ subst OneRoot (sym (root_stays e)) (elim sets.one_root [
      | inl same ↦ inl same
      | inr h ↦ let (q, at_root, at_under) = h in inr (q, still c.root.id q at_root, still c.under.root.id q at_under)
    ])
    | inl h ↦
        let (r, e) = h in
        let on = old_root (some_of d.root r e) in
        subst OneRoot (sym (root_moves r e)) (inr (
          n,
          owner_on r.id (new_root r e),
          elim sets.one_root [
            | inl same ↦ owner_on c.under.root.id (subst (λ y. touches d y.id ≡ true) same on)
            | inr g ↦
                let (q, at_root, at_under) = g in
                let is : q ≡ n = same_Some q n (sym (still c.root.id q at_root) ∙ owner_on c.root.id on) in
                still c.under.root.id q at_under ∙ ap Some is
          ],
        ))
  ]

  not_under : in_under c txn.0 ≡ false
  not_under = not_first c.trace (sealed_in c.trace) n a.unsealed

  not_base : in_base c txn.0 ≡ false
  not_base = not_first c.trace (committed_in c.trace) n a.unsealed

  chosen_is : (s : ℕ → Bool) → in_set c s txn.0 ≡ s n
  chosen_is s = ap (λ b. b || s n) not_under

  with_it : (s : ℕ → Bool) → s n ≡ true
      → Stands w c.start (newest ∷ c.trace) (in_set c s) (place d (cells c s)) (root_after d (root_with c s))
  with_it s e =
      let h = sets.each s in
      let m = content_of w c.start (in_set c s) c.trace in
      let all = all_done w c in
      stands_takes w c.start (in_set c s) txn script index x (w.reply x (all_done w c)) c.trace (cells c s)
      (place d (cells c s)) (root_with c s) (root_after d (root_with c s)) (chosen_is s ∙ e) h
      (goes w local (cells c s) c.memory (root_with c s) c.root m all x d a.touched a.changed h.is in_memory does
      (meets s e) (reach s e))
      (sym (reply_alike w local (cells c s) c.memory (root_with c s) c.root m all x d a.touched a.changed h.is
      in_memory does (meets s e) (reach s e)))
      (finds_alike w local (cells c s) c.memory (root_with c s) c.root m all x d a.touched a.changed h.is in_memory
      does (meets s e) (reach s e))

  each_after : (s : ℕ → Bool) → Stands w c.start (newest ∷ c.trace) (in_set c s)
      (cells (applied w c txn script index x d) s) (root_with (applied w c txn script index x d) s)
  each_after s = elim (true_or_false (s n)) [
    | inl e ↦ stands_at w c.start (newest ∷ c.trace) (in_set c s) (in_set c s) (place d (cells c s))
        (cells (applied w c txn script index x d) s) (root_after d (root_with c s))
        (root_with (applied w c txn script index x d) s) refl (λ j i. sym (cell_with s i e) j) (sym (root_with_it s e))
        (with_it s e)
    | inr e ↦ stands_at w c.start (newest ∷ c.trace) (in_set c s) (in_set c s) (cells c s)
        (cells (applied w c txn script index x d) s) (root_with c s) (root_with (applied w c txn script index x d) s)
        refl (λ j i. sym (cell_without s i e) j) (sym (root_without s e))
        (stands_skips w c.start (in_set c s) txn script index x (w.reply x (all_done w c)) c.trace (cells c s)
        (root_with c s) (chosen_is s ∙ e) (sets.each s))
  ]

  pub applied_sets : Sets w (applied w c txn script index x d)
  applied_sets = record {
    clean = clean_after;
    one_root = one_root_at;
    counts = sets.counts;
    committed = stands_skips w c.start (in_base c) txn script index x (w.reply x (all_done w c)) c.trace c.base.cells
        c.base.root not_base sets.committed;
    each = each_after;
  }
