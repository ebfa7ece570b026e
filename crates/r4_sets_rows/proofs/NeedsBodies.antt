-- Why each thing is asked of a change: where a file's body stands.
use Rattle.std.specs.Prelude.{◌≡◌, ◌≢◌, ◌⊎◌, ℕ, zero, suc, ◌+◌, ◌-◌, ◌<◌, ◌≤◌, ◌==◌, ◌||◌, cond, nat_le, nat_lt, []}
use Rattle.std.specs.Prelude.{◌∷◌, Contains, Bool, true, false, Option, Some, None, is_some, if◌then◌else◌}
use Rattle.std.specs.FinMap.{empty}
use Rattle.std.proofs.Common.{arith, inl, inr, refl, sym, ap, subst, ◌∙◌}
use Rattle.std.proofs.Math.Decide.{ℕ_discrete, dec_le}
use Rattle.std.proofs.Math.Nat.{le_refl, lt_of_not-le}
use Rattle.std.proofs.lemmas.Bool.{eq-eqb, eqb-true, ne_eqb, or_cases, and_from, le-leb, lt-ltb}
use Rattle.std.proofs.lemmas.Option.{none-some, same_Some}
use Rattle.r4_base.specs.Key.{key_of_rank, least, minor_of, top}
use Rattle.r4_base.specs.Tree.{Node, Root, Store, Holds, IsTree}
use Rattle.r4_base.specs.Value.{Value, Stat, Byte, Content, at_key}
use Rattle.r4_base.specs.Volume.{HasFiles, HasUnits, IsVisible, byte_rank, object_of, stat_rank, HasExtents, HasTails}
use Rattle.r4_base.specs.Volume.{InExtent, InTail}
use Rattle.r4_base.proofs.FreshTree.{only as single}
use Rattle.r4_cell.specs.Patch.{IsPatch, Meets, Patch, over, place}
use Rattle.r4_patch.proofs.Converse.{patch_from_trees}
use Rattle.r4_patch.specs.SecondRoot.{small_root}
use Rattle.r4_content.specs.Edited.{Edits, Intervals, changed, edited, is_between, is_in, no_edits}
use Rattle.r4_content.specs.Locality.{Agree, IsLocal, Meaning}
use Rattle.r4_content.specs.declared.command.Command.{Command}
use Rattle.r4_content.specs.declared.command.Command.TheVariants.{Begin, End, Commit, Stat as Ask}
use Rattle.r4_content.specs.declared.reply.Reply.{Reply}
use Rattle.r4_content.specs.declared.reply.Reply.TheVariants.{Okay, Absent}
use Rattle.r4_content.proofs.EditLaws.{at_edited, at_insert, edited_off, edited_on, one_key, same_content}
use Rattle.r4_trace.specs.declared.entry.Entry.TheVariants.{Done}
use Rattle.r4_sets.specs.Change.{applied, no_patch, touches}
use Rattle.r4_sets.specs.Session.{IsTreeOf, Session, Sets, Stands, only, picks, cells}
use Rattle.r4_sets.specs.Units.{SameUnit}
use Rattle.r4_sets.proofs.Answered.{no_patch_is}
use Rattle.r4_sets_rows.specs.Needed.{IsNeeded, Bodies, Stats, Stays}
use Rattle.r4_sets_rows.specs.OneFile.{behind_at, body_at, file_content, file_store, file_twig, file_with, left_leaf}
use Rattle.r4_sets_rows.specs.OneFile.{middle_cell, right_leaf, stat_at, the_file, zeros}
use Rattle.r4_sets_rows.specs.Small.{script, txn}
use Rattle.r4_sets_rows.proofs.FileBody.{AtByte, AtStat, IsFound, byte_at, byte_there, extent_of, file_units}
use Rattle.r4_sets_rows.proofs.FileBody.{file_visible, found, is_object, stat_there, tails_files, tails_of}
use Rattle.r4_sets_rows.proofs.FileBody.{extent_files}
use Rattle.r4_sets_rows.proofs.FileTree.{file_is_tree, left_there, middle, middle_there, right_there, to_zeros}
use Rattle.r4_sets_rows.proofs.FileTree.{twig_there, IsOne, OfLeft, OfMiddle, OfRight, OfTwig, in_zeros, one_cell}
use Rattle.r4_base.proofs.Choices.{nothing_in}
use Rattle.r4_content.proofs.Ranks.{between_is, stat_not_byte}
use Rattle.r4_content.proofs.Shapes.{stat_back}
use Rattle.r4_patch.specs.Effect.{Placed, UnitIn}
use Rattle.r4_sets.proofs.Carried.{byte_owner}

no_true : false ≡ true → ⊥
no_true e = cc

-- ---- commands of fixed edits: one grows the file within its block, one appends a byte to the block, and one looks at
-- a byte

abbrev growing : Edits
growing = record {
  cuts = [];
  zeros = (body_at + 4090, body_at + 4096) ∷ [];
  puts =
      (stat_at, Stat (file_with 4096)) ∷ [];
}

abbrev appending : Edits
appending = record { cuts = []; zeros = []; puts = (stat_at, Stat (file_with 4097)) ∷ ((body_at + 4096, Byte 0) ∷ []) }

abbrev edits_by : Command → Edits
edits_by Begin = growing
edits_by Commit = appending
edits_by x = no_edits

abbrev looked_at : ℕ
looked_at = body_at + 4092

abbrev reads_by : Command → Intervals
reads_by End = (looked_at, looked_at + 1) ∷ []
reads_by x = []

abbrev seen_there : Option Value → Reply
seen_there None = Absent
seen_there (Some v) = Okay

abbrev reply_by : Command → Option Value → Reply
reply_by End o = seen_there o
reply_by x o = Okay

abbrev fixed : Meaning Command Reply
fixed = record {
  after = λ x m. edited (edits_by x) m;
  reply = λ x m. reply_by x (at_key m looked_at);
  reads = λ x m. reads_by x;
  changes = λ x m. changed (edits_by x);
}

one_in : (k : ℕ) → is_in ((k, k + 1) ∷ []) k ≡ true
one_in k = ap (λ b. b || false) (one_key k k ∙ eq-eqb k k refl)

one_only : (k q : ℕ) → is_in ((k, k + 1) ∷ []) q ≡ true → q ≡ k
one_only k q e = elim (or_cases (is_between k (k + 1) q) false e)
    [ inl h ↦ eqb-true q k (sym (one_key q k) ∙ h) | inr h ↦ absurd (no_true h) ]

told : (x : Command) (m n : Content) → Agree fixed x m n → reply_by x (at_key m looked_at)
    ≡ reply_by x (at_key n looked_at)
told End m n h = ap seen_there (h looked_at (one_in looked_at))
told x m n h = refl

fixed_local : IsLocal fixed
fixed_local = record {
  same_reads = λ x m n h. refl;
  same_changes = λ x m n h. refl;
  same_reply = told;
  same_values = λ x m n k h on. edited_on (edits_by x) m n k on;
  others = λ x m k off. edited_off (edits_by x) m k off;
}

-- ---- a byte is appended to a file whose body another atom has turned into tails

abbrev kinds : Store Value → Type 0
kinds t = IsTreeOf t small_root (file_content 4096 4096)

-- the first atom's cells are the twig and the block, in memory a leaf
abbrev owner_by : Bool → Bool → Option ℕ
owner_by a d = if a then Some 1 else if d then Some 1 else None

turned_owner : ℕ → Option ℕ
turned_owner i = owner_by (i == 22) (i == 24)

abbrev turned : Session
turned = record {
  start = file_content 4096 4096;
  trace = [];
  base = record { cells = file_store false 4096 0; root = small_root };
  under = record { cells = file_store false 4096 0; root = small_root };
  memory = file_store true 4096 0;
  root = small_root;
  owner = turned_owner;
}

-- a set has the first atom's cells, or it has not
turned_cells : (s : ℕ → Bool) (i : ℕ)
    → cond (picks s (turned_owner i)) (file_store true 4096 0 i) (file_store false 4096 0 i) ≡ file_store (s 1) 4096 0 i
unfolding file_store turned_owner
turned_cells s i = by_cell (i == 22) (i == 23) (i == 24) (i == 25)
  where
    by_twig : (p : Bool) → cond p (Some (file_twig true)) (Some (file_twig false)) ≡ Some (file_twig p)
    by_twig true = refl
    by_twig false = refl

    by_middle : (p : Bool) → cond p (Some (middle_cell true)) (Some (middle_cell false)) ≡ Some (middle_cell p)
    by_middle true = refl
    by_middle false = refl

    by_both : (p : Bool) (c : Option (Node Value)) → cond p c c ≡ c
    by_both true c = refl
    by_both false c = refl

    by_cell : (a b d e : Bool) → cond (picks s (owner_by a d))
        (if a then Some (file_twig true) else if b then Some (left_leaf 4096) else if d then Some
        (middle_cell true) else if e then Some (right_leaf 0) else None)
        (if a then Some (file_twig false) else if b then Some (left_leaf 4096) else if d then Some
        (middle_cell false) else if e then Some (right_leaf 0) else None)
        ≡ (if a then Some (file_twig (s 1)) else if b then Some (left_leaf 4096) else if d then Some
        (middle_cell (s 1)) else if e then Some (right_leaf 0) else None)
    by_cell true b d e = by_twig (s 1)
    by_cell false true true e = by_both (s 1) (Some (left_leaf 4096))
    by_cell false true false e = refl
    by_cell false false true e = by_middle (s 1)
    by_cell false false false true = refl
    by_cell false false false false = refl

either_tree : (p : Bool) → IsTreeOf (file_store p 4096 0) small_root (file_content 4096 4096)
either_tree true = tails_of 0 (omega arith)
either_tree false = extent_of 4096 (omega arith) (omega arith)

turned_root : (s : ℕ → Bool) → cond (picks s (turned_owner 22)) small_root small_root ≡ small_root
turned_root s = by_both (picks s (turned_owner 22))
  where
    by_both : (p : Bool) → cond p small_root small_root ≡ small_root
    by_both true = refl
    by_both false = refl

turned_stands : (s : ℕ → Bool) → Stands fixed (file_content 4096 4096) [] s (file_store false 4096 0) small_root
turned_stands s = record { is = either_tree false; replies = tt; alike = tt }

clean_turned : (i : ℕ) → turned_owner i ≡ None → file_store true 4096 0 i ≡ file_store false 4096 0 i
unfolding file_store turned_owner
clean_turned i e = by_cell (i == 22) (i == 23) (i == 24) e
  where
    by_cell : (a b d : Bool) → owner_by a d ≡ None
        → (if a then Some (file_twig true) else if b then Some (left_leaf 4096) else if d then Some
        (middle_cell true) else if i == 25 then Some (right_leaf 0) else None)
        ≡ (if a then Some (file_twig false) else if b then Some (left_leaf 4096) else if d then Some
        (middle_cell false) else if i == 25 then Some (right_leaf 0) else None)
    by_cell true b d h = absurd (none-some 1 (sym h))
    by_cell false true d h = refl
    by_cell false false true h = absurd (none-some 1 (sym h))
    by_cell false false false h = refl

turned_sets : Sets fixed turned
turned_sets = record {
  clean = clean_turned;
  one_root = inl refl;
  counts = omega arith;
  committed = record { is = either_tree false; replies = tt; alike = tt };
  each = λ s. record {
    is = subst (λ r. IsTreeOf (cells turned s) r (file_content 4096 4096)) (sym (turned_root s))
        (subst (λ t. IsTreeOf t small_root (file_content 4096 4096)) (λ j i. sym (turned_cells s i) j)
        (either_tree (s 1)));
    replies = tt;
    alike = tt;
  };
}

-- ---- the byte that is appended, in tails

abbrev byte_more : Patch Value
byte_more = record {
  old = λ i. if i == 23 then Some (left_leaf 4096) else if i == 25 then Some (right_leaf 0) else None;
  new = λ i. if i == 23 then Some (left_leaf 4097) else if i == 25 then Some (right_leaf 1) else None;
  root = None;
}

placed_more : (t : Bool) → place byte_more (file_store t 4096 0) ≡ file_store t 4097 1
unfolding file_store
placed_more t j i = by_rest (i == 22) (i == 23) (i == 24) (i == 25)
    (λ a. ne_eqb i 23 (λ e. let x = eqb-true i 22 a in absurd (omega (arith, x, e))))
    (λ a. ne_eqb i 25 (λ e. let x = eqb-true i 22 a in absurd (omega (arith, x, e))))
    (λ a. ne_eqb i 23 (λ e. let x = eqb-true i 24 a in absurd (omega (arith, x, e))))
    (λ a. ne_eqb i 25 (λ e. let x = eqb-true i 24 a in absurd (omega (arith, x, e)))) j
  where
    by_rest : (a b d e : Bool) → (a ≡ true → b ≡ false) → (a ≡ true → e ≡ false) → (d ≡ true → b ≡ false)
        → (d ≡ true → e ≡ false)
        → over (if b then Some (left_leaf 4097) else if e then Some (right_leaf 1) else None)
        (if b then Some (left_leaf 4096) else if e then Some (right_leaf 0) else None)
        (if a then Some (file_twig t) else if b then Some (left_leaf 4096) else if d then Some (middle_cell t) else if
        e then Some (right_leaf 0) else None)
        ≡ (if a then Some (file_twig t) else if b then Some (left_leaf 4097) else if d then Some (middle_cell t) else
        if e then Some (right_leaf 1) else None)
    by_rest true true d e f g h k = let x : true ≡ false = f refl in cc
    by_rest true false d true f g h k = let x : true ≡ false = g refl in cc
    by_rest true false d false f g h k = refl
    by_rest false true d e f g h k = refl
    by_rest false false true true f g h k = let x : true ≡ false = k refl in cc
    by_rest false false true false f g h k = refl
    by_rest false false false true f g h k = refl
    by_rest false false false false f g h k = refl

from_old : (i : ℕ) (c : Node Value) → byte_more.old i ≡ Some c → ((i ≡ 23) × (c ≡ left_leaf 4096))
    ⊎ ((i ≡ 25) × (c ≡ right_leaf 0))
from_old i c e = by_cell (i == 23) (i == 25) refl refl e
  where
    by_cell : (b f : Bool) → (i == 23) ≡ b → (i == 25) ≡ f
        → (if b then Some (left_leaf 4096) else if f then Some (right_leaf 0) else None) ≡ Some c
        → ((i ≡ 23) × (c ≡ left_leaf 4096)) ⊎ ((i ≡ 25) × (c ≡ right_leaf 0))
    by_cell true f x y h = inl (eqb-true i 23 x, sym (same_Some (left_leaf 4096) c h))
    by_cell false true x y h = inr (eqb-true i 25 y, sym (same_Some (right_leaf 0) c h))
    by_cell false false x y h = absurd (none-some c h)

new_is_old : (i : ℕ) (c : Node Value) → byte_more.new i ≡ Some c → byte_more.old i ≡ None → ⊥
new_is_old i c e gone = by_cell (i == 23) (i == 25) e gone
  where
    by_cell : (b f : Bool) → (if b then Some (left_leaf 4097) else if f then Some (right_leaf 1) else None) ≡ Some c
        → (if b then Some (left_leaf 4096) else if f then Some (right_leaf 0) else None) ≡ None → ⊥
    by_cell true f x y = none-some (left_leaf 4096) (sym y)
    by_cell false true x y = none-some (right_leaf 0) (sym y)
    by_cell false false x y = none-some c x

meets_more : Meets byte_more (file_store true 4096 0) small_root
meets_more = record {
  has_old = λ i c e. elim (from_old i c e) [
    | inl h ↦ ap (file_store true 4096 0) h.0 ∙ left_there true 4096 0 (omega arith) ∙ ap Some (sym h.1)
    | inr h ↦ ap (file_store true 4096 0) h.0 ∙ right_there true 4096 0 (omega arith) ∙ ap Some (sym h.1)
  ];
  free = λ i c e gone. absurd (new_is_old i c e gone);
  root_old = λ e. absurd (no_true e);
}

patch_more : IsPatch byte_more
patch_more = patch_from_trees byte_more (file_store true 4096 0) small_root (file_is_tree true 4096 0 (omega arith))
    meets_more
    (subst (λ t. IsTree t small_root) (sym (placed_more true)) (file_is_tree true 4097 1 (omega arith))) (le_refl 2)

-- ---- contents of other sizes

grown_at : (size n k : ℕ) → at_key (file_content size (suc n)) k
    ≡ cond (k == (body_at + n)) (Some (Byte 0)) (at_key (file_content size n) k)
unfolding file_content
grown_at size n k = at_insert (file_content size n) (body_at + n) (Byte 0) k

swap : (a b : Bool) (x y z : Option Value) → (a ≡ true → b ≡ false) → cond a x (cond b y z) ≡ cond b y (cond a x z)
swap true true x y z h = let e : true ≡ false = h refl in cc
swap true false x y z h = refl
swap false true x y z h = refl
swap false false x y z h = refl

resized : (a b n k : ℕ) → at_key (file_content a n) k
    ≡ cond (k == stat_at) (Some (Stat (file_with a))) (at_key (file_content b n) k)
unfolding file_content
resized a b zero k =
    at_insert empty stat_at (Stat (file_with a)) k
    ∙ twice (k == stat_at) (at_key empty k)
    ∙ ap (cond (k == stat_at) (Some (Stat (file_with a)))) (sym (at_insert empty stat_at (Stat (file_with b)) k))
  where
    twice : (q : Bool) (z : Option Value) → cond q (Some (Stat (file_with a))) z
        ≡ cond q (Some (Stat (file_with a))) (cond q (Some (Stat (file_with b))) z)
    twice true z = refl
    twice false z = refl
resized a b (suc n) k =
    at_insert (file_content a n) (body_at + n) (Byte 0) k
    ∙ ap (cond (k == (body_at + n)) (Some (Byte 0))) (resized a b n k)
    ∙ swap (k == (body_at + n)) (k == stat_at) (Some (Byte 0)) (Some (Stat (file_with a))) (at_key (file_content b n) k)
    (λ e. ne_eqb k stat_at (λ f. let m = middle in let g =
    eqb-true k (body_at + n) e in absurd (omega (arith, f, m, g))))
    ∙ ap (cond (k == stat_at) (Some (Stat (file_with a)))) (sym (at_insert (file_content b n) (body_at + n) (Byte 0) k))

appended : edited appending (file_content 4096 4096) ≡ file_content 4097 4097
appended = same_content (edited appending (file_content 4096 4096)) (file_content 4097 4097) (λ k.
    at_edited appending (file_content 4096 4096) k
    ∙ ap (cond (k == (body_at + 4096)) (Some (Byte 0))) (sym (resized 4097 4096 4096 k))
    ∙ sym (grown_at 4097 4096 k))

-- ---- the example

more_keys : Intervals
more_keys = changed appending

in_more : (k : ℕ) → is_in (changed appending) k ≡ true → (k ≡ stat_at) ⊎ (k ≡ behind_at)
in_more k e = elim (or_cases (is_between stat_at (stat_at + 1) k) (is_between behind_at (behind_at + 1) k || false) e) [
  | inl h ↦ inl (eqb-true k stat_at (sym (one_key k stat_at) ∙ h))
  | inr h ↦ inr (one_only behind_at k h)
]

stat_in : is_in (changed appending) stat_at ≡ true
stat_in = ap (λ b. b || (is_between behind_at (behind_at + 1) stat_at || false)) (one_key stat_at stat_at
    ∙ eq-eqb stat_at stat_at refl)

behind_in : is_in (changed appending) behind_at ≡ true
behind_in = by_first (is_between stat_at (stat_at + 1) behind_at)
  where
    by_first : (b : Bool) → (b || (is_between behind_at (behind_at + 1) behind_at || false)) ≡ true
    by_first true = refl
    by_first false = one_in behind_at

behind_byte : behind_at ≡ byte_rank the_file 4096
behind_byte = sym (byte_at 4096)

more_stats : (k : ℕ) → is_in (changed appending) k ≡ true → minor_of (key_of_rank k) ≡ 4
    → is_in (changed appending) (stat_rank (object_of (key_of_rank k))) ≡ true
more_stats k on four = elim (in_more k on) [
  | inl e ↦
      let one : minor_of (key_of_rank stat_at) ≡ 1 = ap minor_of (stat_back the_file is_object) ∙ omega arith in
      let two : minor_of (key_of_rank stat_at) ≡ 4 = ap (λ q. minor_of (key_of_rank q)) (sym e) ∙ four in
      absurd (omega (arith, one, two))
  | inr e ↦
      let at : k ≡ byte_rank the_file 4096 = e ∙ behind_byte in
      ap (λ q. is_in (changed appending) (stat_rank (object_of (key_of_rank q)))) at
      ∙ ap (λ p. is_in (changed appending) (stat_rank p)) (byte_owner the_file 4096 is_object (omega arith)) ∙ stat_in
]

more_own : (i : ℕ) → touches byte_more i ≡ true → (i ≡ 23) ⊎ (i ≡ 25)
more_own i e = by_cell (i == 23) (i == 25) refl refl e
  where
    by_cell : (b f : Bool) → (i == 23) ≡ b → (i == 25) ≡ f
        → (is_some (if b then Some (left_leaf 4096) else if f then Some (right_leaf 0) else None) || is_some
        (if b then Some (left_leaf 4097) else if f then Some (right_leaf 1) else None)) ≡ true → (i ≡ 23) ⊎ (i ≡ 25)
    by_cell true f x y h = inl (eqb-true i 23 x)
    by_cell false true x y h = inr (eqb-true i 25 y)
    by_cell false false x y h = absurd (no_true h)

turned_free : (i : ℕ) → (i ≡ 23) ⊎ (i ≡ 25) → turned_owner i ≡ None
unfolding turned_owner
turned_free i (inl e) = ap (λ q. owner_by (q == 22) (q == 24)) e
turned_free i (inr e) = ap (λ q. owner_by (q == 22) (q == 24)) e

more_reach : (k : ℕ) → is_in (changed appending) k ≡ true → least ≤ k → k < top → (i : ℕ) × (a : Node Value)
    × (file_store true 4096 0 i ≡ Some a) × Holds a k × ((turned_owner i ≡ None) ⊎ (turned_owner i ≡ Some 2))
more_reach k on from to = elim (in_more k on) [
  | inl e ↦ let m = middle in (
    23,
    left_leaf 4096,
    left_there true 4096 0 (omega arith),
    inl
        (le_refl 1, (from, omega (arith, e, m))),
    inl (turned_free 23 (inl refl)),
  )
  | inr e ↦ (
    25,
    right_leaf 0,
    right_there true 4096 0 (omega arith),
    inl (le_refl 1, (omega (arith, e), to)),
    inl
        (turned_free 25 (inr refl)),
  )
]

-- a unit at another key stands in the middle cell, which stays
others_to : (size j : ℕ) (few : j ≤ 1) (s q : ℕ) (t : Bool) (k : ℕ) (v : Placed Value) → is_in (changed appending) k
    ≡ false → q ≤ 1
    → UnitIn (file_store t size j) k v → UnitIn (file_store t s q) k v
others_to size j few s q t k v off small (i, c, tc, has, kind) = of (one_cell t size j (omega (arith, few)) i c tc)
  where
    of : IsOne t size j (omega (arith, few)) i c → UnitIn (file_store t s q) k v
    of (OfTwig a b) = absurd (nothing_in (k, v.0) (subst (λ (x : Node Value). Contains x.units (k, v.0)) b has))
    of (OfLeft a b) =
        let e : k ≡ stat_at = ap (λ x. x.0)
        (single (stat_at, Stat (file_with size)) (k, v.0)
        (subst (λ (x : Node Value). Contains x.units (k, v.0)) b has)) in
        let f : true ≡ false = sym stat_in ∙ ap (is_in (changed appending)) (sym e) ∙ off in cc
    of (OfMiddle a b) = (
      24,
      middle_cell t,
      middle_there t s q (omega (arith, small)),
      subst
          (λ (x : Node Value). Contains x.units (k, v.0)) b has,
      subst (λ (x : Node Value). (x.level == 1) ≡ v.1) b
          kind,
    )
    of (OfRight a b) =
        let (x, y, _) = in_zeros behind_at j k v.0 (subst (λ (x : Node Value). Contains x.units (k, v.0)) b has) in
        let e : k ≡ behind_at = omega (arith, x, y, few) in
        let f : true ≡ false = sym behind_in ∙ ap (is_in (changed appending)) (sym e) ∙ off in cc

more_stays : (k : ℕ) → is_in (changed appending) k ≡ false
    → SameUnit (file_store true 4096 0) (place byte_more (file_store true 4096 0)) k
more_stays k off = subst (λ t. SameUnit (file_store true 4096 0) t k) (sym (placed_more true))
    (λ v. (
      others_to 4096 0 (omega arith) 4097 1 true k v off (omega arith),
      others_to 4097 1 (omega arith) 4096 0 true
          k v off (omega arith),
    ))

-- a byte in an extent, and one in a tail: the file is in neither alone
in_both : (t : Store Value) (root : Root) (m : Content) → IsTreeOf t root m → t 23 ≡ Some (left_leaf 4097) → t 24
    ≡ Some (middle_cell false) → t 25 ≡ Some (right_leaf 1) → ⊥
in_both t root m h left mid right =
    of (h.files.bodies the_file (file_with 4097)
    (is_object, (h.units stat_at (Stat (file_with 4097))).1 (23, left_leaf 4097, left, (zero, omega arith, refl)))
    refl).1
  where
    extent : InExtent t (byte_rank the_file 0)
    extent = (
      24,
      middle_cell false,
      Byte 0,
      mid,
      (λ e. absurd (omega (arith, e))),
      to_zeros body_at 4096 body_at
          (le_refl body_at) (omega arith),
    )

    tail : InTail t (byte_rank the_file 4096)
    tail = (
      25,
      right_leaf 1,
      Byte 0,
      right,
      refl,
      subst (λ k. Contains (zeros behind_at 1) (k, Byte 0)) behind_byte
          (to_zeros behind_at 1 behind_at (le_refl behind_at) (omega arith)),
    )

    of : HasTails t the_file 4097 ⊎ HasExtents t the_file 4097 → ⊥
    of (inl x) = x.no_extents 0 (omega arith) extent
    of (inr x) = x.no_tails 4096 (omega arith) tail

append_fails : Sets fixed (applied fixed turned (txn 2) (script 2) 1 Commit byte_more) → ⊥
unfolding file_store turned_owner
append_fails sets = in_both _ _ _ (sets.each (only 2)).is refl refl refl

pub bodies_needed : IsNeeded Bodies
bodies_needed = record {
  meaning = fixed;
  local = fixed_local;
  session = turned;
  sets = turned_sets;
  txn = txn 2;
  script = script 2;
  index = 1;
  command = Commit;
  change = byte_more;
  all_else = record {
    unsealed = λ h. h;
    touched = changed appending;
    changed = changed appending;
    patch = patch_more;
    meets = meets_more;
    after = file_content 4097 4097;
    units = subst (λ t. HasUnits t (file_content 4097 4097)) (sym (placed_more true))
        (file_units true 4097 1 (omega arith));
    files = subst (λ t. HasFiles t (file_content 4097 4097)) (sym (placed_more true))
        (tails_files 4097 1 (omega arith) refl);
    visible = subst (IsVisible (file_content 4097 4097)) (sym appended)
        (file_visible 4097 4097 (omega arith) (omega arith));
    reads = λ k e. absurd (no_true e);
    changes = λ k e. e;
    within = λ k e. e;
    stays = more_stays;
    stats = more_stats;
    bodies = tt;
    own = λ i e. inl (turned_free i (more_own i e));
    reach = more_reach;
  };
  fails = append_fails;
}

-- ---- a file that another atom has made longer within its block

grown_owner : ℕ → Option ℕ
grown_owner i = if i == 23 then Some 1 else None

abbrev grown : Session
grown = record {
  start = file_content 4090 4090;
  trace = Done (txn 1) (script 1) 1 Begin Okay ∷ [];
  base = record { cells = file_store false 4090 0; root = small_root };
  under = record { cells = file_store false 4090 0; root = small_root };
  memory = file_store false 4096 0;
  root = small_root;
  owner = grown_owner;
}

option_same : (o p : Option Value) → ((v : Value) → o ≡ Some v → p ≡ Some v) → ((v : Value) → p ≡ Some v → o ≡ Some v)
    → o ≡ p
option_same None None f g = refl
option_same (Some x) p f g = sym (f x refl)
option_same None (Some x) f g = g x refl

within_block : (k : ℕ) → is_in growing.zeros k ≡ true → (body_at + 4090 ≤ k) × (k < body_at + 4096)
within_block k e = elim (or_cases (is_between (body_at + 4090) (body_at + 4096) k) false e) [
  | inl h ↦ between_is (body_at + 4090) (body_at + 4096) k h
  | inr h ↦ absurd (no_true h)
]

grown_value : (k : ℕ) (z : Bool) → is_in growing.zeros k ≡ z → k ≢ stat_at
    → cond z (Some (Byte 0)) (at_key (file_content 4090 4090) k) ≡ at_key (file_content 4096 4096) k
grown_value k true e ne =
    let (a, b) = within_block k e in
    let (x, same) = behind k (body_at + 4090) a in
    sym (ap (at_key (file_content 4096 4096)) (omega (arith, same))
    ∙ byte_there 4096 4096 (4090 + x) (omega (arith, same, b)))
  where
    behind : (k from : ℕ) → from ≤ k → (x : ℕ) × (k ≡ from + x)
    behind k from le = (k - from, omega (arith, le))
grown_value k false e ne = option_same (at_key (file_content 4090 4090) k) (at_key (file_content 4096 4096) k)
    (λ v h. to v (found 4090 4090 k v h)) (λ v h. from v (found 4096 4096 k v h))
  where
    to : (v : Value) → IsFound 4090 4090 k v → at_key (file_content 4096 4096) k ≡ Some v
    to v (AtStat a b) = absurd (ne a)
    to v (AtByte x lt a b) = ap (at_key (file_content 4096 4096)) a ∙ byte_there 4096 4096 x (omega (arith, lt))
        ∙ ap Some (sym b)

    inside : body_at + 4090 ≤ k → k < body_at + 4096 → ⊥
    inside le lt =
        let on : is_in growing.zeros k ≡ true =
        ap (λ b. b || false) (and_from (nat_le (body_at + 4090) k) (nat_lt k (body_at + 4096))
        (le-leb (body_at + 4090) k le) (lt-ltb k (body_at + 4096) lt)) in
        let f : true ≡ false = sym on ∙ e in cc

    from : (v : Value) → IsFound 4096 4096 k v → at_key (file_content 4090 4090) k ≡ Some v
    from v (AtStat a b) = absurd (ne a)
    from v (AtByte x lt a b) = elim (dec_le (suc x) 4090) [
      | yes below ↦ ap (at_key (file_content 4090 4090)) a ∙ byte_there 4090 4090 x below ∙ ap Some (sym b)
      | no past ↦ let far = lt_of_not-le past in absurd (inside (omega (arith, a, far)) (omega (arith, a, lt)))
    ]

grew : edited growing (file_content 4090 4090) ≡ file_content 4096 4096
grew = same_content (edited growing (file_content 4090 4090)) (file_content 4096 4096)
    (λ k. at_edited growing (file_content 4090 4090) k ∙ elim (ℕ_discrete k stat_at) [
      | yes is ↦ ap (λ b. cond b (Some (Stat (file_with 4096)))
          (cond (is_in growing.zeros k) (Some (Byte 0)) (at_key (file_content 4090 4090) k))) (eq-eqb k stat_at is)
          ∙ sym (ap (at_key (file_content 4096 4096)) is ∙ stat_there 4096 4096)
      | no ne ↦ ap (λ b. cond b (Some (Stat (file_with 4096)))
          (cond (is_in growing.zeros k) (Some (Byte 0)) (at_key (file_content 4090 4090) k))) (ne_eqb k stat_at ne)
          ∙ grown_value k (is_in growing.zeros k) refl ne
    ])

-- the size that a set sees
abbrev size_in : Bool → ℕ
size_in true = 4096
size_in false = 4090

grown_tree : (p : Bool) → IsTreeOf (file_store false (size_in p) 0) small_root
    (if p then edited growing (file_content 4090 4090) else file_content 4090 4090)
grown_tree true = subst (IsTreeOf (file_store false 4096 0) small_root) (sym grew)
    (extent_of 4096 (omega arith) (omega arith))
grown_tree false = extent_of 4090 (omega arith) (omega arith)

grown_cells : (s : ℕ → Bool) (i : ℕ)
    → cond (picks s (grown_owner i)) (file_store false 4096 0 i) (file_store false 4090 0 i)
    ≡ file_store false (size_in (s 1)) 0 i
unfolding file_store grown_owner
grown_cells s i = by_cell (i == 22) (i == 23)
  where
    by_leaf : (p : Bool) → cond p (Some (left_leaf 4096)) (Some (left_leaf 4090)) ≡ Some (left_leaf (size_in p))
    by_leaf true = refl
    by_leaf false = refl

    by_both : (p : Bool) (c : Option (Node Value)) → cond p c c ≡ c
    by_both true c = refl
    by_both false c = refl

    by_cell : (a b : Bool) → cond (picks s (if b then Some 1 else None))
        (if a then Some (file_twig false) else if b then Some (left_leaf 4096) else if i == 24 then Some
        (middle_cell false) else if i == 25 then Some (right_leaf 0) else None)
        (if a then Some (file_twig false) else if b then Some (left_leaf 4090) else if i == 24 then Some
        (middle_cell false) else if i == 25 then Some (right_leaf 0) else None)
        ≡ (if a then Some (file_twig false) else if b then Some (left_leaf (size_in (s 1))) else if i == 24 then Some
        (middle_cell false) else if i == 25 then Some (right_leaf 0) else None)
    by_cell true true = by_both (s 1) (Some (file_twig false))
    by_cell true false = refl
    by_cell false true = by_leaf (s 1)
    by_cell false false = refl

grown_clean : (i : ℕ) → grown_owner i ≡ None → file_store false 4096 0 i ≡ file_store false 4090 0 i
unfolding file_store grown_owner
grown_clean i e = by_cell (i == 22) (i == 23) e
  where
    by_cell : (a b : Bool) → ◌≡◌ {A = Option ℕ} (if b then Some 1 else None) None
        → (if a then Some (file_twig false) else if b then Some (left_leaf 4096) else if i == 24 then Some
        (middle_cell false) else if i == 25 then Some (right_leaf 0) else None)
        ≡ (if a then Some (file_twig false) else if b then Some (left_leaf 4090) else if i == 24 then Some
        (middle_cell false) else if i == 25 then Some (right_leaf 0) else None)
    by_cell true b h = refl
    by_cell false true h = absurd (none-some 1 (sym h))
    by_cell false false h = refl

grown_root : (s : ℕ → Bool) → cond (picks s (grown_owner 22)) small_root small_root ≡ small_root
grown_root s = by_both (picks s (grown_owner 22))
  where
    by_both : (p : Bool) → cond p small_root small_root ≡ small_root
    by_both true = refl
    by_both false = refl

grown_sets : Sets fixed grown
grown_sets = record {
  clean = grown_clean;
  one_root = inl refl;
  counts = omega arith;
  committed = record { is = grown_tree false; replies = (λ e. refl, tt); alike = (λ e k h. refl, tt) };
  each = λ s. record {
    is = subst (λ r. IsTreeOf (cells grown s) r
        (if s 1 then edited growing (file_content 4090 4090) else file_content 4090 4090)) (sym (grown_root s))
        (subst (λ t. IsTreeOf t small_root
        (if s 1 then edited growing (file_content 4090 4090) else file_content 4090 4090))
        (λ j i. sym (grown_cells s i) j) (grown_tree (s 1)));
    replies = (λ e. refl, tt);
    alike = (λ e k h. refl, tt);
  };
}

-- ---- another transaction looks at a byte behind the end that the file had, without its size

looked_byte : looked_at ≡ byte_rank the_file 4092
looked_byte = sym (byte_at 4092)

grown_seen : at_key (edited growing (file_content 4090 4090)) looked_at ≡ Some (Byte 0)
grown_seen = ap (λ m. at_key m looked_at) grew ∙ byte_there 4096 4096 4092 (omega arith)

not_seen : at_key (file_content 4090 4090) looked_at ≡ None
not_seen = by_value (at_key (file_content 4090 4090) looked_at) refl
  where
    no_byte : (v : Value) → IsFound 4090 4090 looked_at v → ⊥
    no_byte v (AtStat a b) = let m = middle in absurd (omega (arith, a, m))
    no_byte v (AtByte x lt a b) = absurd (omega (arith, lt, a))

    by_value : (o : Option Value) → at_key (file_content 4090 4090) looked_at ≡ o → o ≡ None
    by_value None e = refl
    by_value (Some v) e = absurd (no_byte v (found 4090 4090 looked_at v e))

look_fails : Sets fixed (applied fixed grown (txn 2) (script 2) 1 End no_patch) → ⊥
look_fails sets =
    let replied = (sets.each (only 2)).replies.0 refl in
    unlike_replies (sym (ap seen_there grown_seen) ∙ replied ∙ ap seen_there not_seen)
  where
    unlike_replies : Okay ≡ Absent → ⊥
    unlike_replies e = cc

grown_free : (i : ℕ) → (i ≡ 22) ⊎ (i ≡ 24) → grown_owner i ≡ None
unfolding grown_owner
grown_free i (inl e) = ap (λ (q : ℕ). if◌then◌else◌ {A = Option ℕ} (q == 23) (Some 1) None) e
grown_free i (inr e) = ap (λ (q : ℕ). if◌then◌else◌ {A = Option ℕ} (q == 23) (Some 1) None) e

grown_visible : IsVisible (file_content 4096 4096) (edited growing (file_content 4090 4090))
grown_visible = subst (IsVisible (file_content 4096 4096)) (sym grew)
    (file_visible 4096 4096 (omega arith) (omega arith))

no_patch_meets : Meets no_patch (file_store false 4096 0) small_root
no_patch_meets = record {
  has_old = λ i c e. absurd (none-some c e);
  free =
      λ i c e gone. absurd (none-some c e);
  root_old = λ e. absurd (no_true e);
}

pub stats_needed : IsNeeded Stats
stats_needed = record {
  meaning = fixed;
  local = fixed_local;
  session = grown;
  sets = grown_sets;
  txn = txn 2;
  script = script 2;
  index = 1;
  command = End;
  change = no_patch;
  all_else = record {
    unsealed = λ h. h;
    touched = (looked_at, looked_at + 1) ∷ [];
    changed = [];
    patch = no_patch_is;
    meets = no_patch_meets;
    after = file_content 4096 4096;
    units = file_units false 4096 0 (omega arith);
    files = extent_files 4096 (omega arith) (omega arith);
    visible = grown_visible;
    reads = λ k e. e;
    changes = λ k e. e;
    within = λ k e. absurd (no_true e);
    stays = λ k off v. (λ x. x, λ x. x);
    stats = tt;
    bodies = λ o a stat file on. absurd
        (stat_not_byte o the_file 4092 stat.0 is_object (omega arith) (one_only looked_at (stat_rank o) on
        ∙ looked_byte));
    own = λ i e. absurd (no_true e);
    reach = λ k on from to.
        let e = one_only looked_at k on in (
          24,
          middle_cell false,
          middle_there false 4096 0 (omega arith),
          inl
              (omega arith, (omega (arith, e), omega (arith, e))),
          inl (grown_free 24 (inr refl)),
        );
  };
  fails = look_fails;
}

-- ---- another transaction turns the body into tails, and tells of no key

abbrev turning : Patch Value
turning = record {
  old = λ i. if i == 22 then Some (file_twig false) else if i == 24 then Some (middle_cell false) else None;
  new = λ i. if i == 22 then Some (file_twig true) else if i == 24 then Some (middle_cell true) else None;
  root = None;
}

turned_now : (n : ℕ) → place turning (file_store false n 0) ≡ file_store true n 0
unfolding file_store
turned_now n j i = by_rest (i == 22) (i == 23) (i == 24)
    (λ b. ne_eqb i 24 (λ e. let x = eqb-true i 23 b in absurd (omega (arith, x, e)))) j
  where
    by_rest : (a b d : Bool) → (b ≡ true → d ≡ false)
        → over (if a then Some (file_twig true) else if d then Some (middle_cell true) else None)
        (if a then Some (file_twig false) else if d then Some (middle_cell false) else None)
        (if a then Some (file_twig false) else if b then Some (left_leaf n) else if d then Some
        (middle_cell false) else if i == 25 then Some (right_leaf 0) else None)
        ≡ (if a then Some (file_twig true) else if b then Some (left_leaf n) else if d then Some
        (middle_cell true) else if i == 25 then Some (right_leaf 0) else None)
    by_rest true b d f = refl
    by_rest false true true f = let x : true ≡ false = f refl in cc
    by_rest false true false f = refl
    by_rest false false true f = refl
    by_rest false false false f = refl

turning_old : (i : ℕ) (c : Node Value) → turning.old i ≡ Some c → ((i ≡ 22) × (c ≡ file_twig false))
    ⊎ ((i ≡ 24) × (c ≡ middle_cell false))
turning_old i c e = by_cell (i == 22) (i == 24) refl refl e
  where
    by_cell : (b f : Bool) → (i == 22) ≡ b → (i == 24) ≡ f
        → (if b then Some (file_twig false) else if f then Some (middle_cell false) else None) ≡ Some c
        → ((i ≡ 22) × (c ≡ file_twig false)) ⊎ ((i ≡ 24) × (c ≡ middle_cell false))
    by_cell true f x y h = inl (eqb-true i 22 x, sym (same_Some (file_twig false) c h))
    by_cell false true x y h = inr (eqb-true i 24 y, sym (same_Some (middle_cell false) c h))
    by_cell false false x y h = absurd (none-some c h)

turning_new : (i : ℕ) (c : Node Value) → turning.new i ≡ Some c → turning.old i ≡ None → ⊥
turning_new i c e gone = by_cell (i == 22) (i == 24) e gone
  where
    by_cell : (b f : Bool) → (if b then Some (file_twig true) else if f then Some (middle_cell true) else None) ≡ Some c
        → (if b then Some (file_twig false) else if f then Some (middle_cell false) else None) ≡ None → ⊥
    by_cell true f x y = none-some (file_twig false) (sym y)
    by_cell false true x y = none-some (middle_cell false) (sym y)
    by_cell false false x y = none-some c x

turning_touched : (i : ℕ) → touches turning i ≡ true → (i ≡ 22) ⊎ (i ≡ 24)
turning_touched i e = by_cell (i == 22) (i == 24) refl refl e
  where
    by_cell : (b f : Bool) → (i == 22) ≡ b → (i == 24) ≡ f
        → (is_some (if b then Some (file_twig false) else if f then Some (middle_cell false) else None) || is_some
        (if b then Some (file_twig true) else if f then Some (middle_cell true) else None)) ≡ true → (i ≡ 22)
        ⊎ (i ≡ 24)
    by_cell true f x y h = inl (eqb-true i 22 x)
    by_cell false true x y h = inr (eqb-true i 24 y)
    by_cell false false x y h = absurd (no_true h)

turning_meets : Meets turning (file_store false 4096 0) small_root
turning_meets = record {
  has_old = λ i c e. elim (turning_old i c e) [
    | inl h ↦ ap (file_store false 4096 0) h.0 ∙ twig_there false 4096 0 (omega arith) ∙ ap Some (sym h.1)
    | inr h ↦ ap (file_store false 4096 0) h.0 ∙ middle_there false 4096 0 (omega arith) ∙ ap Some (sym h.1)
  ];
  free = λ i c e gone. absurd (turning_new i c e gone);
  root_old = λ e. absurd (no_true e);
}

turning_is : IsPatch turning
turning_is = patch_from_trees turning (file_store false 4096 0) small_root (file_is_tree false 4096 0 (omega arith))
    turning_meets
    (subst (λ t. IsTree t small_root) (sym (turned_now 4096)) (file_is_tree true 4096 0 (omega arith))) (le_refl 2)

-- a block in tails, of which the file's size has less
too_long : (t : Store Value) (root : Root) (m : Content) → IsTreeOf t root m → t 23 ≡ Some (left_leaf 4090) → t 24
    ≡ Some (middle_cell true) → ⊥
too_long t root m h left mid =
    of (h.files.bodies the_file (file_with 4090)
    (is_object, (h.units stat_at (Stat (file_with 4090))).1 (23, left_leaf 4090, left, (zero, omega arith, refl)))
    refl).1
  where
    tail : InTail t (byte_rank the_file 4092)
    tail = (
      24,
      middle_cell true,
      Byte 0,
      mid,
      refl,
      subst (λ k. Contains (zeros body_at 4096) (k, Byte 0)) looked_byte
          (to_zeros body_at 4096 looked_at (omega arith) (omega arith)),
    )

    of : HasTails t the_file 4090 ⊎ HasExtents t the_file 4090 → ⊥
    of (inl x) = let below = (x.offsets 4092 (omega arith)).0 tail in absurd (omega (arith, below))
    of (inr x) = x.no_tails 4092 (omega arith) tail

abbrev other : Command
other = Ask []

turn_fails : Sets fixed (applied fixed grown (txn 2) (script 2) 1 other turning) → ⊥
unfolding file_store grown_owner
turn_fails sets = too_long _ _ _ (sets.each (only 2)).is refl refl

pub stays_needed : IsNeeded Stays
stays_needed = record {
  meaning = fixed;
  local = fixed_local;
  session = grown;
  sets = grown_sets;
  txn = txn 2;
  script = script 2;
  index = 1;
  command = other;
  change = turning;
  all_else = record {
    unsealed = λ h. h;
    touched = [];
    changed = [];
    patch = turning_is;
    meets = turning_meets;
    after = file_content 4096 4096;
    units = subst (λ t. HasUnits t (file_content 4096 4096)) (sym (turned_now 4096))
        (file_units true 4096 0 (omega arith));
    files = subst (λ t. HasFiles t (file_content 4096 4096)) (sym (turned_now 4096))
        (tails_files 4096 0 (omega arith) refl);
    visible = grown_visible;
    reads = λ k e. e;
    changes = λ k e. e;
    within = λ k e. e;
    stays = tt;
    stats = λ k e four. absurd (no_true e);
    bodies = λ o a stat file e. absurd (no_true e);
    own = λ i e. inl (grown_free i (turning_touched i e));
    reach = λ k e from to. absurd (no_true e);
  };
  fails = turn_fails;
}
