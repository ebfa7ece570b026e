-- What each step of a walk prints, and what is left after it.
use Rattle.std.proofs.Common.{◌≡◌, inl, inr, ℕ, ◌+◌, ◌*◌, ◌^◌, ◌≤◌, Bool, true, false, List, [], ◌∷◌, ◌++◌, length, take, Some, None, refl, sym, ap, subst, ◌∙◌, append_assoc, append-nil}
use Rattle.std.specs.Prelude.{Option, Result, Ok, Err, OnOk, OnErr, IfErr, IfNone}
use Rattle.std.specs.Arc.{arc_value}
use Rattle.std.specs.Result.{IsErrAnd}
use Rattle.std.proofs.lemmas.Bool.{cases_Bool}
use Rattle.r4_base.specs.Image.{Image}
use Rattle.r4_base.specs.Key.{rank}
use Rattle.r4_base.specs.Value.{Content}
use Rattle.r4_base.specs.Volume.{HasContent, is_directory}
use Rattle.r4_base.specs.declared.items.Attr.{Attr}
use Rattle.r4_base.specs.declared.items.Target.{Target}
use Rattle.r4_cde.specs.Shown.{entry_shown, name_bytes}
use Rattle.r4_cde.specs.declared.view.EntryRef.{EntryRef}
use Rattle.r4_cell.specs.Seen.{CellSeen, node_of}
use Rattle.r4_cell.specs.declared.change.Root.{Root}
use Rattle.r4_content.specs.Walk.{attr_at}
use Rattle.r4_outside.specs.Sink.{SinkState, AppendsPart}
use Rattle.r4_search.specs.Pool.{PoolState}
use Rattle.r4_list.specs.Below.{GoesDown, GoesInto, GoesOn, IsBegun, IsFrameOf, IsHeld, IsOnward, IsPushed, IsPut, IsStack, PrintsOne, printed_in}
use Rattle.r4_list.specs.Frame.{IsOfDir, IsOfOther, StandsAt, StandsFrom, dir_number}
use Rattle.r4_search.specs.Pool.{StandsInMemory}
use Rattle.r4_list.specs.Listing.{line_of}
use Rattle.r4_list.specs.Over.{IsOver}
use Rattle.r4_list.specs.Printed.{IsUndamagedStop, PrintsOver}
use Rattle.r4_list.specs.Walking.{OpenDir, open_dir, open_from, rest_of, IsEnough, IsLeftAt, IsWalking, NoneBefore, PrintsToo}
use Rattle.r4_list.specs.declared.below.Below.{Below}
use Rattle.r4_list.specs.declared.fault.Stop.{Stop}
use Rattle.r4_list.specs.declared.frame.Frame.{Frame}
use Rattle.r4_list.specs.declared.frame.Place.TheVariants.{Entry, ItemEnd, LeafEnd, DirEnd}
use Rattle.r4_list.proofs.BodyOver.{nothing_part, on_err}
use Rattle.r4_list.proofs.BelowWalk.{begun_same, begun_take, pushed_of, settled, walks_same}
use Rattle.r4_list.proofs.FramePlaces.{here_is_left, none_before_here, none_in_leaf, none_left, past_here, past_item}
use Rattle.r4_list.proofs.LinesLeft.{met_dir, met_file, moved}
use Rattle.r4_list.proofs.WalkObjects.{named_object}
use Rattle.r4_list.proofs.WalkSteps.{file_passed, new_dir, opened, passed}

-- ---- where it stopped

pub not_ok : {T : Type 0} (X : Type 0) (e : Stop) (r : Result T Stop) → IsErrAnd r (λ y. y ≡ e) → OnOk r X
not_ok {T} X e (Ok x) is = absurd is
not_ok {T} X e (Err y) is = tt

pub stopped_so : {T : Type 0} (r : Result T Stop) (e : Stop) → IsErrAnd r (λ y. y ≡ e) → IsUndamagedStop e → IfErr r IsUndamagedStop
stopped_so {T} (Ok x) e is u = tt
stopped_so {T} (Err y) e is u = subst IsUndamagedStop (sym is) u

pub none_or_some : {X : Type 0} (o : Option X) (x : X) → o ≡ None → o ≡ Some x → ⊥
none_or_some {X} o x a b = differ (sym a ∙ b)
  where
    differ : None ≡ Some x → ⊥
    differ e = cc

pub none_there : {X : Type 0} {A : Type 0} (o : Option X) → o ≡ None → IfNone o A → A
none_there {X} {A} None is a = a
none_there {X} {A} (Some x) is a = absurd cc

pub part_longer : (a rest text before : List ℕ) (after : Option (List ℕ)) → text ≡ a ++ rest → AppendsPart a before after → AppendsPart text before after
part_longer a rest text before after e p = record { part = p.part; rest = p.rest ++ rest; splits = e ∙ (ap (λ (t : List ℕ). t ++ rest) p.splits ∙ append_assoc p.part p.rest rest); written = p.written }

longer_part : {T : Type 0} (r : Result T Stop) (a rest text before : List ℕ) (after : Option (List ℕ)) → text ≡ a ++ rest → OnErr r (AppendsPart a before after) → OnErr r (AppendsPart text before after)
longer_part {T} (Ok v) a rest text before after is p = tt
longer_part {T} (Err e) a rest text before after is p = part_longer a rest text before after is p

pub some_more : (before : List ℕ) → Some before ≡ Some (before ++ [])
some_more before = sym (ap (λ (t : List ℕ). Some t) (append-nil before))

-- a step that stopped before anything was printed
pub stayed : {T : Type 0} {n : ℕ} {image : Image} {m : Content} (c : HasContent n image m) (root : Root) (start : Target) (steps : ℕ) (text : List ℕ) (k : SinkState) (p : PoolState) (b' : Below) (r : Result T Stop) (e : Stop)
    → IsErrAnd r (λ y. y ≡ e) → IsUndamagedStop e → IsOver c root p → GoesOn c root start steps text k r p b' k
stayed {T} c root start steps text k p b' r e is u over = record {
  over = over;
  onward = not_ok _ e r is;
  part = λ before h. on_err r _ (nothing_part text before k.written h);
  undamaged = stopped_so r e is u;
}

-- ---- an object's line

module _ {T : Type 0} {n : ℕ} {image : Image} {m : Content} (c : HasContent n image m) (root : Root) (o : Target) (a : Attr) (b b' : Below) (k k' : SinkState) (p : PoolState) where
  pub one_stopped : (r : Result T Stop) (e : Stop) → IsErrAnd r (λ y. y ≡ e) → PrintsOver c root (line_of a b.path.items) k r p k' → PrintsOne c root o a b k r p b' k'
  one_stopped r e is prints = record { prints = prints; path = not_ok _ e r is; file = λ f. not_ok _ e r is; dir = λ d new. not_ok _ e r is }

  pub one_file : (v : T) → PrintsOver c root (line_of a b.path.items) k (Ok v) p k' → is_directory a ≡ false → b'.path.items ≡ b.path.items → b'.frames.items ≡ b.frames.items → b'.printed ≡ b.printed → PrintsOne c root o a b k (Ok v) p b' k'
  one_file v prints file path frames printed = record { prints = prints; path = path; file = λ f. (frames, printed); dir = λ d new. absurd (both (sym file ∙ d)) }
    where
      both : false ≡ true → ⊥
      both e = cc

  pub one_dir : (v : T) → PrintsOver c root (line_of a b.path.items) k (Ok v) p k' → is_directory a ≡ true → b'.path.items ≡ b.path.items
      → (printed_in b o.oid.0 ≡ false → PrintsToo (printed_in b) o.oid.0 (printed_in b') × GoesInto c (open_dir o b.path.items 0) b.frames.items b'.frames.items) → PrintsOne c root o a b k (Ok v) p b' k'
  one_dir v prints dir path goes = record { prints = prints; path = path; file = λ f. absurd (both (sym f ∙ dir)); dir = λ d new. goes new }
    where
      both : false ≡ true → ⊥
      both e = cc

-- ---- a step of a walk

module _ {n : ℕ} {image : Image} {m : Content} (c : HasContent n image m) where
  pub low_of : (f : OpenDir) (frame : Frame) → IsFrameOf c f frame → dir_number frame.dir.0 * 2 ^ 192 ≤ rank (arc_value {X = CellSeen} frame.leaf).hi
  low_of f frame of = subst (λ (d : ℕ). dir_number d * 2 ^ 192 ≤ rank (arc_value {X = CellSeen} frame.leaf).hi) of.place.dir_is of.place.stands.above

  -- an object that is gone on with: its line is printed, and where it is a directory that was not printed, it is gone into
  module _ {T : Type 0} (root : Root) (start : Target) (steps : ℕ) (o : Target) (a : Attr) (gs : List OpenDir) (b b' : Below) (k k' : SinkState) (p : PoolState) (text : List ℕ) where
    pub file_on : (r : Result T Stop) → PrintsOne c root o a b k r p b' k' → is_directory a ≡ false → IsStack c b.path.items gs b.frames.items → IsWalking m start gs (printed_in b)
        → text ≡ line_of a b.path.items ++ rest_of m steps gs → OnOk r (IsOnward c start steps text k b' k')
    file_on (Ok v) one file stack w is =
        let (frames, printed) = one.file file in
        record {
          fs = gs;
          done = line_of a b.path.items;
          stack = subst (λ (xs : List Frame). IsStack c b'.path.items gs xs) (sym frames) (subst (λ (t : List ℕ). IsStack c t gs b.frames.items) (sym one.path) stack);
          walks = walks_same m start gs b b' printed w;
          is = is;
          written = λ before h. one.prints.whole before h;
        }
    file_on (Err e) one file stack w is = tt

    pub dir_on : (r : Result T Stop) → PrintsOne c root o a b k r p b' k' → is_directory a ≡ true → printed_in b o.oid.0 ≡ false → IsStack c b.path.items gs b.frames.items
        → ((next : ℕ → Bool) → PrintsToo (printed_in b) o.oid.0 next → IsWalking m start (open_dir o b.path.items 0 ∷ gs) next)
        → text ≡ line_of a b.path.items ++ rest_of m steps (open_dir o b.path.items 0 ∷ gs) → OnOk r (IsOnward c start steps text k b' k')
    dir_on (Ok v) one dir new stack walks is =
        let (too, goes) = one.dir dir new in
        let s = settled c start steps (open_dir o b.path.items 0) gs (printed_in b') b'.path.items b.frames.items b'.frames.items
        (subst (λ (t : List ℕ). IsBegun b.path.items t) (sym one.path) (begun_same b.path.items)) stack (walks (printed_in b') too) goes in
        record {
          fs = s.gs;
          done = line_of a b.path.items;
          stack = s.stack;
          walks = s.walks;
          is = is ∙ ap (λ (t : List ℕ). line_of a b.path.items ++ t) s.rest;
          written = λ before h. one.prints.whole before h;
        }
    dir_on (Err e) one dir new stack walks is = tt

  module _ (root : Root) (start : Target) (steps : ℕ) (f : OpenDir) (fs : List OpenDir) (b : Below) (frame : Frame) (held : IsHeld c f fs b frame) (w : IsWalking m start (f ∷ fs) (printed_in b)) where
    -- the leaf of the place, as it is looked at
    module _ (enough : IsEnough m steps) (x : CellSeen) (same : x ≡ arc_value {X = CellSeen} frame.leaf) (whole : length x.block ≡ 4096) (stands : StandsInMemory x) where
      leaf : x.level ≡ 1
      leaf = ap (λ (y : CellSeen). y.level) same ∙ frame.level

      stored : c.store x.id ≡ Some (node_of x)
      stored = subst (λ (y : CellSeen). c.store y.id ≡ Some (node_of y)) (sym same) held.held.place.stored

      here : StandsFrom m f x frame.item frame.entry
      here = subst (λ (y : CellSeen). StandsFrom m f y frame.item frame.entry) (sym same) held.held.place.stands

      at_leaf : (g : OpenDir) (i j : ℕ) → StandsFrom m g x i j → StandsFrom m g (arc_value {X = CellSeen} frame.leaf) i j
      at_leaf g i j s = subst (λ (y : CellSeen). StandsFrom m g y i j) same s

      -- an entry stands at the place
      module _ (e : EntryRef) (at : StandsAt x frame.dir.0 frame.item frame.entry (Entry e)) (mid : Below) (path : mid.path.items ≡ take frame.path b.path.items ++ 47 ∷ name_bytes e.name) (printed : mid.printed ≡ b.printed)
          (pushed : IsPushed frame frame.item (frame.entry + 1) b.frames.items mid.frames.items) where
        of : IsOfDir x f.dir.oid.0 frame.item
        of = subst (λ (d : ℕ). IsOfDir x d frame.item) (sym held.held.place.dir_is) at.1

        is_left : IsLeftAt m f (rank e.key) (name_bytes e.name) e.target
        is_left = here_is_left c x whole leaf stands stored f frame.item frame.entry here (entry_shown e) at.0 of

        none_before : NoneBefore m f (rank e.key)
        none_before = none_before_here c x whole leaf stands stored f frame.item frame.entry here (entry_shown e) at.0 of

        put : IsPut c (open_from f (rank e.key + 1)) b.frames.items mid.frames.items
        put = pushed_of c f (open_from f (rank e.key + 1)) frame frame.item (frame.entry + 1) b.frames.items mid.frames.items held.held refl refl
            (at_leaf (open_from f (rank e.key + 1)) frame.item (frame.entry + 1) (past_here c x whole leaf stands stored f frame.item frame.entry here (entry_shown e) at.0 of)) pushed

        below_path : mid.path.items ≡ f.path ++ 47 ∷ name_bytes e.name
        below_path =
            path ∙ ap (λ (t : List ℕ). t ++ 47 ∷ name_bytes e.name) (ap (λ (l : ℕ). take l b.path.items) held.held.path ∙ begun_take f.path b.path.items held.path)

        stack_mid : IsStack c mid.path.items (open_from f (rank e.key + 1) ∷ fs) mid.frames.items
        stack_mid = (b.frames.items, put.frame, put.is, put.of, (47 ∷ name_bytes e.name, below_path), held.stack)

        w_mid : IsWalking m start (f ∷ fs) (printed_in mid)
        w_mid = walks_same m start (f ∷ fs) b mid printed w

        module _ {T : Type 0} (k k' : SinkState) (r : Result T Stop) (p : PoolState) (b' : Below) (a : Attr) (is : attr_at m e.target ≡ Some a) (one : PrintsOne c root e.target a mid k r p b' k') where
          on_file : is_directory a ≡ false → GoesOn c root start steps (rest_of m steps (f ∷ fs)) k r p b' k'
          on_file file =
              let text = met_file m steps f fs (rank e.key) (name_bytes e.name) e.target a is_left none_before is file (enough start f fs (printed_in b) w) in
              let lines : rest_of m steps (f ∷ fs) ≡ line_of a mid.path.items ++ rest_of m steps (open_from f (rank e.key + 1) ∷ fs) =
              text ∙ ap (λ (t : List ℕ). line_of a t ++ rest_of m steps (open_from f (rank e.key + 1) ∷ fs)) (sym below_path) in
              record {
                over = one.prints.over;
                onward = file_on root start steps e.target a (open_from f (rank e.key + 1) ∷ fs) mid b' k k' p (rest_of m steps (f ∷ fs)) r one file stack_mid
                    (file_passed m start f fs (printed_in mid) w_mid (rank e.key) (name_bytes e.name) e.target is_left) lines;
                part = λ before h. longer_part r (line_of a mid.path.items) _ _ before k'.written lines (one.prints.part before h);
                undamaged = one.prints.undamaged;
              }

          on_dir : is_directory a ≡ true → GoesOn c root start steps (rest_of m steps (f ∷ fs)) k r p b' k'
          on_dir dir =
              let text = met_dir m steps f fs (rank e.key) (name_bytes e.name) e.target a is_left none_before is dir (enough start f fs (printed_in b) w) in
              let lines : rest_of m steps (f ∷ fs) ≡ line_of a mid.path.items ++ rest_of m steps (open_dir e.target mid.path.items 0 ∷ open_from f (rank e.key + 1) ∷ fs) =
              text ∙ ap (λ (t : List ℕ). line_of a t ++ rest_of m steps (open_dir e.target t 0 ∷ open_from f (rank e.key + 1) ∷ fs)) (sym below_path) in
              record {
                over = one.prints.over;
                onward = dir_on root start steps e.target a (open_from f (rank e.key + 1) ∷ fs) mid b' k k' p (rest_of m steps (f ∷ fs)) r one dir
                    (new_dir m start f fs (printed_in mid) w_mid n image c (rank e.key) (name_bytes e.name) e.target a is_left is dir) stack_mid
                    (λ next too. opened m start f fs (printed_in mid) w_mid n image c (rank e.key) (name_bytes e.name) e.target a is_left is dir mid.path.items next too) lines;
                part = λ before h. longer_part r (line_of a mid.path.items) _ _ before k'.written lines (one.prints.part before h);
                undamaged = one.prints.undamaged;
              }

        pub entry_step : {T : Type 0} (k k' : SinkState) (r : Result T Stop) (p : PoolState) (b' : Below) → ((a : Attr) → attr_at m e.target ≡ Some a → PrintsOne c root e.target a mid k r p b' k')
            → GoesOn c root start steps (rest_of m steps (f ∷ fs)) k r p b' k'
        entry_step {T} k k' r p b' h =
            let (a, is) = named_object n image m c (rank e.key) (name_bytes e.name) e.target is_left.stands in
            elim (cases_Bool (is_directory a)) [
              | inl dir ↦ on_dir k k' r p b' a is (h a is) dir
              | inr file ↦ on_file k k' r p b' a is (h a is) file
            ]

      -- nothing was printed
      still : {T : Type 0} (v : T) (k : SinkState) (p : PoolState) (b' : Below) → IsOver c root p → (gs : List OpenDir) → IsStack c b'.path.items gs b'.frames.items → IsWalking m start gs (printed_in b')
          → rest_of m steps (f ∷ fs) ≡ rest_of m steps gs → GoesOn c root start steps (rest_of m steps (f ∷ fs)) k (Ok v) p b' k
      still {T} v k p b' over gs stack walks is = record {
        over = over;
        onward = record { fs = gs; done = []; stack = stack; walks = walks; is = is; written = λ before h. h ∙ some_more before };
        part = λ before h. tt;
        undamaged = tt;
      }

      -- no entry of the item stands from the place on
      pub item_step : {T : Type 0} (v : T) (k : SinkState) (p : PoolState) (b' : Below) → IsOver c root p → StandsAt x frame.dir.0 frame.item frame.entry ItemEnd → b'.path ≡ b.path → b'.printed ≡ b.printed
          → IsPushed frame (frame.item + 1) 0 b.frames.items b'.frames.items → GoesOn c root start steps (rest_of m steps (f ∷ fs)) k (Ok v) p b' k
      item_step {T} v k p b' over at path printed pushed =
          let put = pushed_of c f f frame (frame.item + 1) 0 b.frames.items b'.frames.items held.held refl refl (at_leaf f (frame.item + 1) 0 (past_item c x whole leaf stands stored f frame.item frame.entry here at)) pushed in
          still v k p b' over (f ∷ fs) (b.frames.items, put.frame, put.is, put.of, subst (λ (t : _). IsBegun f.path t.items) (sym path) held.path, held.stack)
          (walks_same m start (f ∷ fs) b b' printed w) refl

      -- another's item stands there
      pub dir_step : {T : Type 0} (v : T) (k : SinkState) (p : PoolState) → IsOver c root p → StandsAt x frame.dir.0 frame.item frame.entry DirEnd → GoesOn c root start steps (rest_of m steps (f ∷ fs)) k (Ok v) p b k
      dir_step {T} v k p over at =
          let other = subst (λ (d : ℕ). IsOfOther x d frame.item) (sym held.held.place.dir_is) at in
          let s = settled c start steps f fs (printed_in b) b.path.items b.frames.items b.frames.items held.path held.stack w (inl (none_left c x whole leaf stands stored f frame.item frame.entry here other, refl)) in
          still v k p b over s.gs s.stack s.walks s.rest

      down : {T : Type 0} (r : Result T Stop) (k : SinkState) (p : PoolState) (b' : Below) → (to : ℕ) → rest_of m steps (f ∷ fs) ≡ rest_of m steps (open_from f to ∷ fs) → IsWalking m start (open_from f to ∷ fs) (printed_in b)
          → GoesDown c root (open_from f to) b r p b' → OnOk r (IsOnward c start steps (rest_of m steps (f ∷ fs)) k b' k)
      down {T} (Err e) k p b' to is walks g = tt
      down {T} (Ok v) k p b' to is walks g =
          let (path, printed, goes) = g.goes in
          let s = settled c start steps (open_from f to) fs (printed_in b') b'.path.items b.frames.items b'.frames.items (subst (λ (t : List ℕ). IsBegun f.path t) (sym path) held.path) held.stack
          (walks_same m start (open_from f to ∷ fs) b b' printed walks) goes in
          record { fs = s.gs; done = []; stack = s.stack; walks = s.walks; is = is ∙ s.rest; written = λ before h. h ∙ some_more before }

      -- no item stands from the place on
      pub leaf_step : {T : Type 0} (r : Result T Stop) (k : SinkState) (p : PoolState) (b' : Below) → StandsAt x frame.dir.0 frame.item frame.entry LeafEnd → GoesDown c root (open_from f (rank (arc_value {X = CellSeen} frame.leaf).hi)) b r p b'
          → GoesOn c root start steps (rest_of m steps (f ∷ fs)) k r p b' k
      leaf_step {T} r k p b' at g =
          let to = rank (arc_value {X = CellSeen} frame.leaf).hi in
          let le = held.held.place.stands.from in
          let none = subst (λ (y : CellSeen). NoneBefore m f (rank y.hi)) same (none_in_leaf c x whole leaf stands stored f frame.item frame.entry here at) in
          record {
            over = g.over;
            onward = down r k p b' to (moved m steps f fs to le none) (passed m start f fs (printed_in b) to le w) g;
            part = λ before h. on_err r _ (nothing_part (rest_of m steps (f ∷ fs)) before k.written h);
            undamaged = g.undamaged;
          }
