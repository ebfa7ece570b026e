-- Where the body stood that a task's edits change: in extents or in tails, as its reach tells.
use Rattle.std.proofs.Common.{◌≡◌, ◌⊎◌, inl, inr, ℕ, ◌+◌, ◌<◌, ◌≤◌, ◌^◌, Bool, true, false, not, [], ◌∷◌}
use Rattle.std.proofs.Common.{List, Option, Some, None, refl, sym, ap, subst, ◌∙◌, arith, option_map}
use Rattle.std.specs.Prelude.{Contains, map, ◌==◌, ◌&&◌, if◌then◌else◌}
use Rattle.std.specs.List.{list_any}
use Rattle.std.proofs.Math.Bool.{and-true}
use Rattle.std.proofs.Math.Decide.{ℕ_discrete}
use Rattle.std.proofs.lemmas.Bool.{cases_Bool, eq-eqb, eqb-true, le-leb, lt-ltb, ne_eqb, or_cases, or_left, or_right}
use Rattle.std.proofs.lemmas.Option.{same_Some}
use Rattle.r4_base.specs.Key.{key_of_rank, least, minor_of, top}
use Rattle.r4_base.specs.Tree.{Holds, IsTree, Node, Root, Store}
use Rattle.r4_base.specs.Value.{Byte, Content, Entry, Stat, Value, at_key}
use Rattle.r4_base.specs.Volume.{HasExtents, HasFiles, HasStat, HasTails, HasUnits, InExtent, InTail, IsObject}
use Rattle.r4_base.specs.Volume.{IsVisible, KeyFits, byte_rank, is_directory, object_of, stat_rank}
use Rattle.r4_base.specs.declared.items.Attr.{Attr}
use Rattle.r4_base.specs.declared.items.Target.{Target}
use Rattle.r4_base.proofs.Trees.{one_cell, unit_range}
use Rattle.r4_content.specs.Edited.{Edits, Intervals, Pairs, changed, edited, is_between, is_in}
use Rattle.r4_content.specs.Fields.{HasBytePaths, NamesUnused}
use Rattle.r4_content.specs.Lawful.{IsLawful}
use Rattle.r4_content.specs.Meaning.{after, greatest_size}
use Rattle.r4_content.specs.Seen.{IsSeen}
use Rattle.r4_content.specs.declared.command.Command.{Command}
use Rattle.r4_content.proofs.OneObject.{numbers_of}
use Rattle.r4_content.proofs.Ranks.{between_is, byte_after}
use Rattle.r4_content_rows.proofs.SameKind.{kinds_stay}
use Rattle.r4_turned_moves.proofs.r4_extent_moves.r4_applied.BodyTold as Told
use Rattle.r4_turned_moves.proofs.r4_extent_moves.r4_applied.BodyTold.{bodies_then, one_file, reads_alike, same_edits, stat_read, was_is}
use Rattle.r4_turned_moves.proofs.r4_extent_moves.r4_applied.OneBody.{IsOneBody, file_is, of_file}
use Rattle.r4_turned_moves.proofs.r4_extent_moves.r4_applied.Reached.{reached_there}
use Rattle.r4_turned_moves.proofs.r4_extent_moves.r4_applied.SeenThere.{seen_there, stat_seen, stat_stands}
use Rattle.r4_turned_moves.proofs.r4_extent_moves.r4_applied.r4_build.r4_reach.Answers.{is_seen}
use Rattle.r4_turned_moves.proofs.r4_extent_moves.r4_applied.r4_build.r4_reach.FirstKeys.{first_is}
use Rattle.r4_turned_moves.proofs.r4_extent_moves.r4_applied.r4_build.r4_reach.Trees.{held}
use Rattle.r4_turned_moves.proofs.r4_extent_moves.r4_applied.r4_sets.Bodies.{file_or_not, no_body, one_attr}
use Rattle.r4_turned_moves.proofs.r4_extent_moves.r4_applied.r4_sets.Carried.{byte_owner, not_both_ways}
use Rattle.r4_turned_moves.proofs.r4_extent_moves.r4_applied.r4_sets_told.r4_patch.Holding.{one_holder, unit_held}
use Rattle.r4_turned_moves.proofs.r4_extent_moves.r4_applied.r4_sets_told.r4_patch.Members.{cases, here, later, none}
use Rattle.r4_turned_moves.proofs.r4_extent_moves.r4_applied.r4_sets_told.r4_patch.PartCells.{tree_is_part}
use Rattle.r4_turned_moves.specs.r4_extent_moves.r4_applied.r4_build.Built.{IsPlaceFor}
use Rattle.r4_turned_moves.specs.r4_extent_moves.r4_applied.r4_build.declared.task.Task.{Task}
use Rattle.r4_turned_moves.specs.r4_extent_moves.r4_applied.r4_reach.Answer.{IsReachOf}
use Rattle.r4_turned_moves.specs.r4_extent_moves.r4_applied.r4_reach.Needs.{demand_on}
use Rattle.r4_turned_moves.specs.r4_extent_moves.r4_applied.r4_reach.Reach.{HasReached, Touches, is_body}
use Rattle.r4_turned_moves.specs.r4_extent_moves.r4_applied.r4_reach.Touched.{Body, IsKindIn, body_key, body_of, body_on}
use Rattle.r4_turned_moves.specs.r4_extent_moves.r4_applied.r4_reach.Touched.{coming, edits_on, first_byte, has_unit, is_spread}
use Rattle.r4_turned_moves.specs.r4_extent_moves.r4_applied.r4_reach.Touched.{raw_changes, reads_on, shown_at, size_in, turns_out}
use Rattle.r4_turned_moves.specs.r4_extent_moves.r4_applied.r4_reach.Touched.{whole_blocks, with_blocks}
use Rattle.r4_turned_moves.specs.r4_extent_moves.r4_applied.r4_sets_told.r4_cell.Patch.{by_name, root_of_pair}
use Rattle.r4_turned_moves.specs.r4_extent_moves.r4_applied.r4_sets_told.r4_cell.Seen.{CellSeen}
use Rattle.r4_turned_moves.specs.r4_extent_moves.r4_applied.r4_sets_told.r4_cell.declared.change.Root.{Root as RootPair}
use Rattle.r4_task_moves.specs.Doing.{body_for}
use Rattle.r4_task_moves.proofs.CutFiles.{IsFileByte, cut_files}
use Rattle.r4_task_moves.proofs.PutThere.{uncut_there}

-- The body stood where its flag says; one of no bytes stood nowhere.
pub record HasStood (u : Store Value) (b : Body) : Type 0 where
  pub extents : b.in_extents ≡ true → HasExtents u b.file b.was
  pub tails : b.in_extents ≡ false → HasTails u b.file b.was
  pub empty : b.was ≡ 0 → HasTails u b.file b.was × HasExtents u b.file b.was

-- ---- units of a cell

unit_of : (us : List (ℕ × Value)) (k : ℕ) → list_any (λ w. w.0 == k) us ≡ true → (v : Value) × Contains us (k, v)
unit_of [] k is = absurd (let f : false ≡ true = is in cc)
unit_of (w ∷ us) k is = elim (or_cases (w.0 == k) (list_any (λ x. x.0 == k) us) is) [
  | inl own ↦
      let same : w.0 ≡ k = eqb-true w.0 k own in
      (w.1, subst (λ (q : ℕ). Contains (w ∷ us) (q, w.1)) same (here w us))
  | inr rest ↦ let (v, has) = unit_of us k rest in (v, later w (k, v) us has)
]

has_one : (us : List (ℕ × Value)) (k : ℕ) (v : Value) → Contains us (k, v) → list_any (λ w. w.0 == k) us ≡ true
has_one [] k v has = absurd (none (k, v) has)
has_one (w ∷ us) k v has = elim (cases w (k, v) us has) [
  | inl is ↦
      or_left (w.0 == k) (list_any (λ x. x.0 == k) us) (eq-eqb w.0 k (ap (λ (x : ℕ × Value). x.0) (sym is)))
  | inr rest ↦ or_right (w.0 == k) (list_any (λ x. x.0 == k) us) (has_one us k v rest)
]

-- ---- what is changed lies in the blocks that are

module _ (b : Body) (k : ℕ) (own : first_byte b ≤ k) where
  in_whole : (r : ℕ × ℕ) → is_between r.0 r.1 k ≡ true
      → is_between (whole_blocks b r).0 (whole_blocks b r).1 k ≡ true
  in_whole r on =
      let (low, high) = between_is r.0 r.1 k on in
      rw (
        le-leb (whole_blocks b r).0 k (omega (arith, low, own)),
        lt-ltb k (whole_blocks b r).1 (omega (arith, high, own)),
      ) refl

  with_one : (r : ℕ × ℕ) → is_between r.0 r.1 k ≡ true
      → is_between (with_blocks b r).0 (with_blocks b r).1 k ≡ true
  with_one r on = by (is_body r.0) refl
    where
      by : (t : Bool) → is_body r.0 ≡ t → is_between (with_blocks b r).0 (with_blocks b r).1 k ≡ true
      by true is =
          ap (λ (t : Bool). is_between (if t then whole_blocks b r else r).0 (if t then whole_blocks b r else r).1 k) is
          ∙ in_whole r on
      by false is =
          ap (λ (t : Bool). is_between (if t then whole_blocks b r else r).0 (if t then whole_blocks b r else r).1 k) is
          ∙ on

  with_all : (rs : Intervals) → is_in rs k ≡ true → is_in (map (with_blocks b) rs) k ≡ true
  with_all [] on = on
  with_all (r ∷ rs) on = elim (or_cases (is_between r.0 r.1 k) (is_in rs k) on) [
    | inl at ↦
        or_left (is_between (with_blocks b r).0 (with_blocks b r).1 k) (is_in (map (with_blocks b) rs) k) (with_one r at)
    | inr rest ↦
        or_right (is_between (with_blocks b r).0 (with_blocks b r).1 k) (is_in (map (with_blocks b) rs) k)
        (with_all rs rest)
  ]

  in_raw : (rs : Intervals) → is_in rs k ≡ true → is_in (raw_changes (Some b) rs) k ≡ true
  in_raw rs on = by (is_spread b) (turns_out b)
    where
      by : (t o : Bool) → is_in (if t then (if o then coming b ∷ map (with_blocks b) rs else map (with_blocks b) rs)
          else rs) k ≡ true
      by false o = on
      by true false = with_all rs on
      by true true =
          or_right (is_between (coming b).0 (coming b).1 k) (is_in (map (with_blocks b) rs) k) (with_all rs on)

-- ---- where it stood

-- a body's key is a file's, where a value stands there
file_of : (m : Content) (k : ℕ) (v : Value) → KeyFits m (key_of_rank k) v → minor_of (key_of_rank k) ≡ 4
    → (a : Attr) × HasStat m (object_of (key_of_rank k)) a × (is_directory a ≡ false)
file_of m k (Stat a) fits four = let one = fits.0 in absurd (omega (arith, one, four))
file_of m k (Entry s t) fits four = absurd (omega (arith, fits, four))
file_of m k (Byte y) fits four = fits.1

module _ (pair : RootPair) (c : Command) (met reads writes : List CellSeen) (rises : Option RootPair)
    (h : IsReachOf pair c met reads writes rises) (u : Store Value) (root : Root) (it : IsTree u root)
    (same : HasReached (demand_on c h.seen h.in_extents) (by_name met) u) (raw n : Content) (units : HasUnits u raw)
    (files : HasFiles u raw) (visible : IsVisible raw n) (saw : IsSeen greatest_size c h.seen n)
    (lawful : IsLawful greatest_size n) (paths : HasBytePaths c) (unused : NamesUnused n c)
    (j : ℕ) (found : body_key (changed (edits_on c h.seen)) ≡ Some j) where
  abbrev e : Edits
  e = edits_on c h.seen

  abbrev o : Target
  o = object_of (key_of_rank j)

  abbrev b : Body
  b = body_of (edits_on c h.seen) h.seen h.in_extents j

  one : IsOneBody (edits_on c h.seen)
  one = one_file c h.seen n saw lawful paths unused

  first : (is_in (changed (edits_on c h.seen)) j ≡ true) × (is_body j ≡ true)
  first = first_is (changed (edits_on c h.seen)) j found

  own_file : object_of (key_of_rank j) ≡ one.file
  own_file = file_is (edits_on c h.seen) one j first.0 first.1

  object : IsObject (object_of (key_of_rank j))
  object = subst IsObject (sym own_file) one.object

  first_at : (x : ℕ) × (x < 2 ^ 64) × (j ≡ byte_rank (object_of (key_of_rank j)) x)
  first_at =
      let (x, small, at) = of_file (edits_on c h.seen) one j first.0 first.1 in
      (x, small, at ∙ ap (λ (p : Target). byte_rank p x) (sym own_file))

  -- its size is what its stat data told
  was_size : (body_of (edits_on c h.seen) h.seen h.in_extents j).was
      ≡ size_in (at_key n (stat_rank (object_of (key_of_rank j))))
  was_size =
      ap size_in (saw.agrees (stat_rank (object_of (key_of_rank j)))
      (reads_alike c h.seen n saw lawful paths unused (stat_rank (object_of (key_of_rank j)))
      ∙ stat_read c h.seen n saw lawful paths unused j first.0 first.1))

  -- where it is there, it was a file
  file_was : (a : Attr) → HasStat n (object_of (key_of_rank j)) a → is_directory a ≡ false
  file_was a stat = elim (cases_Bool (is_in (edits_on c h.seen).cuts j)) [
    | inr uncut ↦ let (v, there) = uncut_there (edits_on c h.seen) n j first.0 uncut in by_there v there
    | inl cut ↦ by_cut (cut_files greatest_size (omega arith) n lawful c paths unused j
        (ap (λ (d : Edits). is_in d.cuts j) (sym (same_edits c h.seen n saw lawful paths unused)) ∙ cut) first.1)
  ]
    where
      by_there : (v : Value) → at_key (edited (edits_on c h.seen) n) j ≡ Some v → is_directory a ≡ false
      by_there v there =
          let (d, now, file) = file_of (edited (edits_on c h.seen) n) j v
          ((bodies_then c h.seen n saw lawful paths unused).keys j v there) (eqb-true (minor_of (key_of_rank j)) 4 first.1) in
          let later_on : at_key (after greatest_size c n) (stat_rank (object_of (key_of_rank j))) ≡ Some (Stat d) =
          ap (λ (x : Edits). at_key (edited x n) (stat_rank (object_of (key_of_rank j))))
          (sym (same_edits c h.seen n saw lawful paths unused)) ∙ now.1 in
          sym (kinds_stay greatest_size n c (omega arith) lawful paths unused
          (stat_rank (object_of (key_of_rank j))) a d stat.1 later_on) ∙ file

      by_cut : IsFileByte n j → is_directory a ≡ false
      by_cut was =
          let own : was.file ≡ object_of (key_of_rank j) =
          sym (byte_owner was.file was.at was.stat.0 was.small)
          ∙ ap (λ (k : ℕ). object_of (key_of_rank k)) (sym was.key) in
          let there : HasStat n (object_of (key_of_rank j)) was.attr =
          subst (λ (p : Target). HasStat n p was.attr) own was.stat in
          ap is_directory (one_attr n (object_of (key_of_rank j)) a was.attr stat there) ∙ was.kind

  stood_as : (a : Attr) → HasStat n (object_of (key_of_rank j)) a → is_directory a ≡ false
      → HasTails u (object_of (key_of_rank j)) a.size ⊎ HasExtents u (object_of (key_of_rank j)) a.size
  stood_as a stat file =
      (files.bodies (object_of (key_of_rank j)) a (stat_stands raw n visible (object_of (key_of_rank j)) a stat) file).1

  -- ---- a body of no bytes

  module _ (zero_size : (body_of (edits_on c h.seen) h.seen h.in_extents j).was ≡ 0) where
    none_there : (x : ℕ) → x < 2 ^ 64
        → InTail u (byte_rank (object_of (key_of_rank j)) x) ⊎ InExtent u (byte_rank (object_of (key_of_rank j)) x) → ⊥
    none_there x lt has = elim (file_or_not n (object_of (key_of_rank j)) object) [
      | inr new ↦ no_body u raw (object_of (key_of_rank j)) units files object
          (λ a f. new a (stat_seen raw n visible (object_of (key_of_rank j)) a f.0, f.1)) x lt has
      | inl was ↦ let (a, (stat, file)) = was in
          by a.size (sym (ap size_in stat.1) ∙ (sym was_size ∙ zero_size)) (stood_as a stat file) has
    ]
      where
        by : (size : ℕ) → size ≡ 0
            → HasTails u (object_of (key_of_rank j)) size ⊎ HasExtents u (object_of (key_of_rank j)) size
            → InTail u (byte_rank (object_of (key_of_rank j)) x) ⊎ InExtent u (byte_rank (object_of (key_of_rank j)) x)
            → ⊥
        by size is (inl s) (inl t) = let low = (s.offsets x lt).0 t in absurd (omega (arith, is, low))
        by size is (inl s) (inr t) = s.no_extents x lt t
        by size is (inr s) (inl t) = s.no_tails x lt t
        by size is (inr s) (inr t) = let low = (s.offsets x lt).0 t in absurd (omega (arith, is, low))

    no_tails : HasTails u (object_of (key_of_rank j)) (body_of (edits_on c h.seen) h.seen h.in_extents j).was
    no_tails = record {
      offsets = λ x lt. (λ t. absurd (none_there x lt (inl t)), λ low. absurd (omega (arith, zero_size, low)));
      no_extents = λ x lt t. none_there x lt (inr t);
    }

    no_extents : HasExtents u (object_of (key_of_rank j)) (body_of (edits_on c h.seen) h.seen h.in_extents j).was
    no_extents = record {
      offsets = λ x lt. (λ t. absurd (none_there x lt (inr t)), λ low. absurd (omega (arith, zero_size, low)));
      no_tails = λ x lt t. none_there x lt (inl t);
    }

  -- ---- one of some

  module _ (a : Attr) (stat : HasStat n (object_of (key_of_rank j)) a) (some : 0 < a.size) where
    size : (body_of (edits_on c h.seen) h.seen h.in_extents j).was ≡ a.size
    size = was_size ∙ ap size_in stat.1

    file : is_directory a ≡ false
    file = file_was a stat

    -- one of its bytes tells where it stood
    shows : (z : ℕ) × (z < a.size) × (shown_at (body_of (edits_on c h.seen) h.seen h.in_extents j)
        ≡ byte_rank (object_of (key_of_rank j)) z)
        × Touches (demand_on c h.seen h.in_extents) (byte_rank (object_of (key_of_rank j)) z)
    shows =
        let (x, small, at) = first_at in
        let on : is_in (changed (edits_on c h.seen)) (byte_rank (object_of (key_of_rank j)) x) ≡ true =
        ap (is_in (changed (edits_on c h.seen))) (sym at) ∙ first.0 in
        let is_key : Told.key c h.seen n saw lawful paths unused (object_of (key_of_rank j)) object x small on ≡ j =
        same_Some (Told.key c h.seen n saw lawful paths unused (object_of (key_of_rank j)) object x small on) j
        (sym (Told.first c h.seen n saw lawful paths unused (object_of (key_of_rank j)) object x small on).1 ∙ found) in
        let (z, low, is, touch) =
        subst (λ (q : ℕ). (z : ℕ) × (z < a.size)
        × (shown_at (body_of (edits_on c h.seen) h.seen h.in_extents q) ≡ byte_rank (object_of (key_of_rank j)) z)
        × ((is_in (reads_on c h.seen h.in_extents) (byte_rank (object_of (key_of_rank j)) z) ≡ true)
        ⊎ (is_in (changed (edits_on c h.seen)) (byte_rank (object_of (key_of_rank j)) z) ≡ true))) is_key
        (Told.shown c h.seen n saw lawful paths unused (object_of (key_of_rank j)) object x small on h.in_extents a stat
        file some) in (z, low, is, touches z touch)
      where
        touches : (z : ℕ) → (is_in (reads_on c h.seen h.in_extents) (byte_rank (object_of (key_of_rank j)) z) ≡ true)
            ⊎ (is_in (changed (edits_on c h.seen)) (byte_rank (object_of (key_of_rank j)) z) ≡ true)
            → Touches (demand_on c h.seen h.in_extents) (byte_rank (object_of (key_of_rank j)) z)
        touches z (inl read) = inl read
        touches z (inr change) =
            let step = byte_after (object_of (key_of_rank j)) 0 z in
            let from : byte_rank (object_of (key_of_rank j)) (0 + z) ≡ byte_rank (object_of (key_of_rank j)) z =
            ap (byte_rank (object_of (key_of_rank j))) (omega arith) in
            inr (ap (λ (x : Option Body). is_in (raw_changes x (changed (edits_on c h.seen)))
            (byte_rank (object_of (key_of_rank j)) z))
            (ap (option_map (body_of (edits_on c h.seen) h.seen h.in_extents)) found)
            ∙ in_raw (body_of (edits_on c h.seen) h.seen h.in_extents j) (byte_rank (object_of (key_of_rank j)) z)
            (omega (arith, step, from)) (changed (edits_on c h.seen)) change)

    abbrev at : ℕ
    at = shown_at (body_of (edits_on c h.seen) h.seen h.in_extents j)

    -- a cell that was met and holds its key stands in the tree
    holder : (i : ℕ) (d : Node Value) → by_name met i ≡ Some d
        → Holds d (shown_at (body_of (edits_on c h.seen) h.seen h.in_extents j))
        → (least ≤ shown_at (body_of (edits_on c h.seen) h.seen h.in_extents j))
        × (shown_at (body_of (edits_on c h.seen) h.seen h.in_extents j) < top) → u i ≡ Some d
    holder i d is holds (from, to) =
        let (z, low, shown, touch) = shows in
        let (k, w, tw, holds_w, reached) =
        held (demand_on c h.seen h.in_extents) (by_name met) (root_of_pair pair) h.part h.has
        (shown_at (body_of (edits_on c h.seen) h.seen h.in_extents j))
        (subst (Touches (demand_on c h.seen h.in_extents)) (sym shown) touch) from to in
        let one : k ≡ i = one_holder (by_name met) (root_of_pair pair) h.part
        (shown_at (body_of (edits_on c h.seen) h.seen h.in_extents j)) k i w d tw is holds_w holds in
        let wd : w ≡ d = one_cell (by_name met) i w d (subst (λ (q : ℕ). by_name met q ≡ Some w) one tw) is in
        subst (λ (q : ℕ). u q ≡ Some d) one (same k w reached tw ∙ ap (λ (x : Node Value). Some x) wd)

    -- what tells it is no leaf and has a unit there
    told : Bool → Node Value → Type 0
    told t d = t ≡ (not (d.level == 1) && has_unit d (shown_at (body_of (edits_on c h.seen) h.seen h.in_extents j)))

    -- where a unit stands at its key, in a cell that is a leaf or is none, the flag tells it
    flag_is : (leaf : Bool) (i : ℕ) (x : Node Value) (v : Value) → u i ≡ Some x → (x.level == 1) ≡ leaf
        → Contains x.units (shown_at (body_of (edits_on c h.seen) h.seen h.in_extents j), v) → h.in_extents ≡ not leaf
    flag_is leaf i x v ux level has =
        by (subst (IsKindIn (by_name met)) (ap (option_map (body_of (edits_on c h.seen) h.seen h.in_extents)) found) h.kind)
      where
        by : IsKindIn (by_name met) (Some (body_of (edits_on c h.seen) h.seen h.in_extents j)) → h.in_extents ≡ not leaf
        by (inl (none_was, _)) = let is = size in absurd (omega (arith, is, none_was, some))
        by (inr (k, d, met_d, holds, is)) =
            let range = unit_range u root it (shown_at (body_of (edits_on c h.seen) h.seen h.in_extents j)) v (i, x, ux, has) in
            let ud = holder k d met_d holds range in
            let part = tree_is_part u root it in
            let one : i ≡ k = one_holder u root part (shown_at (body_of (edits_on c h.seen) h.seen h.in_extents j)) i k x d
            ux ud (unit_held x (shown_at (body_of (edits_on c h.seen) h.seen h.in_extents j)) v (part.nodes i x ux) has) holds in
            let xd : x ≡ d = one_cell u k x d (subst (λ (q : ℕ). u q ≡ Some x) one ux) ud in
            is ∙ (ap (λ (q : Node Value). not (q.level == 1)
            && has_unit q (shown_at (body_of (edits_on c h.seen) h.seen h.in_extents j))) (sym xd)
            ∙ (rw (level, has_one x.units (shown_at (body_of (edits_on c h.seen) h.seen h.in_extents j)) v has) (and-true (not leaf))))

    -- so it tells how the body stands
    by_flag : (t : Bool) → h.in_extents ≡ t
        → HasTails u (object_of (key_of_rank j)) a.size ⊎ HasExtents u (object_of (key_of_rank j)) a.size
        → (t ≡ true → HasExtents u (object_of (key_of_rank j)) a.size)
        × (t ≡ false → HasTails u (object_of (key_of_rank j)) a.size)
    by_flag t is (inl s) =
        let (z, low, shown, touch) = shows in
        let small = lawful.bodies.small (object_of (key_of_rank j)) a stat file in
        let (i, x, v, ux, level, has) = (s.offsets z (omega (arith, low, small))).1 low in
        let flag = flag_is true i x v ux (eq-eqb x.level 1 level)
        (subst (λ (q : ℕ). Contains x.units (q, v)) (sym shown) has) in
        (λ on. absurd (not_both_ways on (sym is ∙ flag)), λ off. s)
    by_flag t is (inr s) =
        let (z, low, shown, touch) = shows in
        let small = lawful.bodies.small (object_of (key_of_rank j)) a stat file in
        let (i, x, v, ux, level, has) = (s.offsets z (omega (arith, low, small))).1 (omega (arith, low)) in
        let flag = flag_is false i x v ux (ne_eqb x.level 1 level)
        (subst (λ (q : ℕ). Contains x.units (q, v)) (sym shown) has) in
        (λ on. s, λ off. absurd (not_both_ways (sym is ∙ flag) off))

  stood_by : HasStood u (body_of (edits_on c h.seen) h.seen h.in_extents j)
  stood_by = by_value (at_key n (stat_rank (object_of (key_of_rank j)))) refl
    where
      nowhere : (body_of (edits_on c h.seen) h.seen h.in_extents j).was ≡ 0
          → HasStood u (body_of (edits_on c h.seen) h.seen h.in_extents j)
      nowhere is = record {
        extents = λ _. no_extents is;
        tails = λ _. no_tails is;
        empty = λ _. (no_tails is, no_extents is);
      }

      by_value : (v : Option Value) → at_key n (stat_rank (object_of (key_of_rank j))) ≡ v
          → HasStood u (body_of (edits_on c h.seen) h.seen h.in_extents j)
      by_value None at = nowhere (was_size ∙ ap size_in at)
      by_value (Some (Entry s t)) at = nowhere (was_size ∙ ap size_in at)
      by_value (Some (Byte y)) at = nowhere (was_size ∙ ap size_in at)
      by_value (Some (Stat a)) at = elim (ℕ_discrete a.size 0) [
        | yes zero_size ↦ nowhere (was_size ∙ (ap size_in at ∙ zero_size))
        | no more ↦
            let some : 0 < a.size = omega (arith, more) in
            let is : (body_of (edits_on c h.seen) h.seen h.in_extents j).was ≡ a.size = was_size ∙ ap size_in at in
            let both = by_flag a (object, at) some h.in_extents refl (stood_as a (object, at) (file_was a (object, at))) in
            record {
              extents = λ on. subst (HasExtents u (object_of (key_of_rank j))) (sym is) (both.0 on);
              tails = λ off. subst (HasTails u (object_of (key_of_rank j))) (sym is) (both.1 off);
              empty = λ none_was. absurd (omega (arith, is, none_was, some));
            }
      ]

-- ---- of a task

stood_of : (u : Store Value) (c : Command) (s : Pairs) (ie : Bool)
    → ((j : ℕ) → body_key (changed (edits_on c s)) ≡ Some j → HasStood u (body_of (edits_on c s) s ie j))
    → (b : Body) → body_on c s ie ≡ Some b → HasStood u b
stood_of u c s ie each b is = by (body_key (changed (edits_on c s))) refl is
  where
    by : (o : Option ℕ) → body_key (changed (edits_on c s)) ≡ o → option_map (body_of (edits_on c s) s ie) o ≡ Some b
        → HasStood u b
    by None found at = absurd (let f = at in cc)
    by (Some j) found at = subst (HasStood u) (same_Some (body_of (edits_on c s) s ie j) b at) (each j found)

-- Where a task may be done, the body that its edits change stood where the task's flag says.
pub stood_there : (task : Task) (b : Body) (u : Store Value) (root : Root) (raw n : Content) → body_for task ≡ Some b
    → IsPlaceFor task u root raw n → HasStood u b
stood_there task b u root raw n is h =
    stood_of u task.command h.given.reach.seen h.given.reach.in_extents (λ j found.
    stood_by h.pair task.command h.met task.reads task.writes h.rises h.given.reach u root h.tree same raw n h.units
    h.files h.visible saw h.lawful h.paths h.unused j found) b
    ((λ i. body_on task.command (h.given.seen i) (h.given.kind i)) ∙ is)
  where
    same : HasReached (demand_on task.command h.given.reach.seen h.given.reach.in_extents) (by_name h.met) u
    same =
        reached_there h.pair task.command h.met task.reads task.writes h.rises h.given.reach u
        (λ y has. h.given.can.cells_in.stand y has) h.there.stand

    saw_raw : IsSeen greatest_size task.command h.given.reach.seen raw
    saw_raw =
        is_seen h.pair task.command h.met task.reads task.writes h.rises h.given.reach u root raw h.tree same
        h.units

    saw : IsSeen greatest_size task.command h.given.reach.seen n
    saw =
        seen_there raw n h.visible u h.files task.command h.given.reach.seen
        (numbers_of greatest_size n (omega arith) h.lawful) h.paths saw_raw
