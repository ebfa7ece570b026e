-- How a walk begins, goes on and ends.
use Rattle.std.proofs.Common.{◌≡◌, ◌↔◌, inl, inr, ⊎_elim, ℕ, suc, Bool, true, false, List, [], ◌∷◌, ◌++◌, length, Some, refl, sym, ap, subst, ◌∙◌, append_assoc, append-nil, arith}
use Rattle.std.specs.Prelude.{Option, Result, Ok, Err}
use Rattle.std.specs.BTreeMap.{is_at}
use Rattle.std.specs.List.{list_any}
use Rattle.std.specs.Ordering.{nat_cmp}
use Rattle.std.specs.Result.{IsErrAnd}
use Rattle.std.proofs.lemmas.Bool.{both_ways, cases_Bool}
use Rattle.std.proofs.lemmas.List.Elements.{All-nil}
use Rattle.r4_base.specs.Image.{Image}
use Rattle.r4_base.specs.Value.{Content}
use Rattle.r4_base.specs.Volume.{HasContent, IsReached, is_directory}
use Rattle.r4_base.specs.declared.items.Attr.{Attr}
use Rattle.r4_base.specs.declared.items.Target.{Target}
use Rattle.r4_cell.specs.declared.change.Root.{Root}
use Rattle.r4_content.specs.Walk.{attr_at}
use Rattle.r4_outside.specs.Sink.{SinkState, AppendsPart}
use Rattle.r4_search.specs.Pool.{PoolState}
use Rattle.r4_list.specs.Below.{GoesOn, IsHeld, IsOnward, IsStack, PrintsOne, printed_in}
use Rattle.r4_list.specs.Listing.{line_of, lines_at, lines_of}
use Rattle.r4_list.specs.Over.{IsOver}
use Rattle.r4_list.specs.Printed.{PrintsOver}
use Rattle.r4_list.specs.Walking.{OpenDir, rest_of, IsDirectoryAt, IsWalking, PrintsToo}
use Rattle.r4_list.specs.declared.below.Below.{Below}
use Rattle.r4_list.specs.declared.fault.Stop.{Stop}
use Rattle.r4_list.specs.declared.frame.Frame.{Frame}
use Rattle.r4_list.proofs.BelowSteps.{dir_on, file_on, part_longer, stopped_so}
use Rattle.r4_list.proofs.BelowWalk.{none_open, popped, walks_same}
use Rattle.r4_list.proofs.LinesLeft.{begun, file_lines, nothing_open}
use Rattle.r4_list.proofs.WalkSteps.{begun_walk}

-- no element
pub none_in : {X : Type 0} (xs : List X) (n : ℕ) → n ≡ length xs → n ≡ 0 → xs ≡ []
none_in {X} [] n is zero_is = refl
none_in {X} (x ∷ xs) n is zero_is = absurd (omega (arith, is, zero_is))

-- ---- the beginning

nothing_printed : (b : Below) → b.printed.keys ≡ [] → (id : ℕ) → printed_in b id ≡ false
nothing_printed b none id = ap (λ (ks : List ℕ). list_any (is_at (nat_cmp id)) ks) none

-- the text of an object begins with its line
line_first : (m : Content) (steps : ℕ) (o : Target) (path : List ℕ) (a : Attr) → attr_at m o ≡ Some a → (rest : List ℕ) × (lines_of m (suc steps) o path ≡ line_of a path ++ rest)
unfolding lines_of
line_first m steps o path a is = (_, ap (lines_at m (lines_of m steps) o path) is)

module _ {n : ℕ} {image : Image} {m : Content} (c : HasContent n image m) (root : Root) (s : ℕ) (o : Target) (a : Attr) (reached : IsReached m s o) (is : attr_at m o ≡ Some a) (steps : ℕ) (b : Below) (k k' : SinkState) (p : PoolState) where
  -- no directory is open
  idle : ((id : ℕ) → printed_in b id ≡ false) → IsWalking m o [] (printed_in b)
  idle none = record {
    steps = s;
    begins = reached;
    reached = tt;
    dirs = All-nil (λ (f : OpenDir). IsDirectoryAt m f.dir);
    on = All-nil (λ (f : OpenDir). printed_in b f.dir.oid.0 ≡ true);
    apart = λ i j d lt within. absurd (omega arith);
    named = λ id on. absurd (both_ways (printed_in b id) (none id) on);
  }

  only_this : ((id : ℕ) → printed_in b id ≡ false) → (next : ℕ → Bool) → PrintsToo (printed_in b) o.oid.0 next → (d : ℕ) → (next d ≡ true) ↔ (d ≡ o.oid.0)
  only_this none next too d = ((λ on. ⊎_elim (λ before. absurd (both_ways (printed_in b d) (none d) before)) (λ same. same) ((too d).0 on)), (λ same. (too d).1 (inr same)))

  -- the line of the object was printed
  pub begins : {T : Type 0} (v : T) (b' : Below) → b.frames.items ≡ [] → b.printed.keys ≡ [] → PrintsOne c root o a b k (Ok v) p b' k' → IsOnward c o steps (lines_of m (suc steps) o b.path.items) k b' k'
  begins {T} v b' frames keys one = elim (cases_Bool (is_directory a)) [
    | inl dir ↦
        dir_on c root o steps o a [] b b' k k' p (lines_of m (suc steps) o b.path.items) (Ok v) one dir (nothing_printed b keys o.oid.0) frames
        (λ next too. begun_walk m s o b.path.items a next is dir reached (only_this (nothing_printed b keys) next too)) (begun m steps o b.path.items a is dir)
    | inr file ↦
        file_on c root o steps o a [] b b' k k' p (lines_of m (suc steps) o b.path.items) (Ok v) one file frames (idle (nothing_printed b keys))
        (file_lines m steps o b.path.items a is file ∙ (sym (append-nil (line_of a b.path.items)) ∙ ap (λ (t : List ℕ). line_of a b.path.items ++ t) (sym (nothing_open m steps))))
  ]

  -- it was not
  pub not_begun : {T X : Type 0} (e : Stop) (r : Result T Stop) → IsErrAnd r (λ y. y ≡ e) → (b' : Below) → PrintsOne {T = X} c root o a b k (Err e) p b' k' → PrintsOver c root (lines_of m (suc steps) o b.path.items) k r p k'
  not_begun {T} {X} e (Ok x) same b' one = absurd same
  not_begun {T} {X} e (Err y) same b' one =
      let (rest, lines) = line_first m steps o b.path.items a is in
      record {
        over = one.prints.over;
        whole = λ before w. tt;
        part = λ before w. part_longer (line_of a b.path.items) rest _ before k'.written lines (one.prints.part before w);
        undamaged = stopped_so {T = T} (Err y) e same one.prints.undamaged;
      }

-- ---- a step

pub part_later : (done rest text before : List ℕ) (after : Option (List ℕ)) → text ≡ done ++ rest → AppendsPart rest (before ++ done) after → AppendsPart text before after
part_later done rest text before after is p = record {
  part = done ++ p.part;
  rest = p.rest;
  splits = is ∙ (ap (λ (t : List ℕ). done ++ t) p.splits ∙ sym (append_assoc done p.part p.rest));
  written = p.written ∙ ap (λ (t : List ℕ). Some t) (append_assoc before done p.part);
}

module _ {n : ℕ} {image : Image} {m : Content} (c : HasContent n image m) (start : Target) (steps : ℕ) (text : List ℕ) (k : SinkState) where
  -- the frame of the directory that was opened last was taken away
  pub record Takes (b : Below) (frame : Frame) (k' : SinkState) : Type 0 where
    pub f : OpenDir
    pub fs : List OpenDir
    pub held : IsHeld c f fs b frame
    pub walks : IsWalking m start (f ∷ fs) (printed_in b)
    pub done : List ℕ
    pub is : text ≡ done ++ rest_of m steps (f ∷ fs)
    pub written : (before : List ℕ) → k.written ≡ Some before → k'.written ≡ Some (before ++ done)

  pub takes : (b b1 : Below) (frame : Frame) (k' : SinkState) → b.frames.items ≡ b1.frames.items ++ frame ∷ [] → b1.printed ≡ b.printed → b1.path ≡ b.path → IsOnward c start steps text k b k' → Takes b1 frame k'
  takes b b1 frame k' items printed path on =
      let (f, gs, e, of, begins, stack) = popped c b.path.items on.fs b.frames.items b1.frames.items frame on.stack items in
      record {
        f = f;
        fs = gs;
        held = record { held = of; path = subst (λ (t : _). (r : List ℕ) × (t.items ≡ f.path ++ r)) (sym path) begins; stack = stack };
        walks = walks_same m start (f ∷ gs) b b1 printed (subst (λ (xs : List OpenDir). IsWalking m start xs (printed_in b)) e on.walks);
        done = on.done;
        is = on.is ∙ ap (λ (xs : List OpenDir). on.done ++ rest_of m steps xs) e;
        written = on.written;
      }

  module _ {X : Type 0} (root : Root) (b b' : Below) (frame : Frame) (k1 k2 : SinkState) (p : PoolState) (t : Takes b frame k1) where
    pub goes_on : (v : X) → GoesOn c root start steps (rest_of m steps (t.f ∷ t.fs)) k1 (Ok v) p b' k2 → IsOnward c start steps text k b' k2
    goes_on v g = record {
      fs = g.onward.fs;
      done = t.done ++ g.onward.done;
      stack = g.onward.stack;
      walks = g.onward.walks;
      is = t.is ∙ (ap (λ (q : List ℕ). t.done ++ q) g.onward.is ∙ sym (append_assoc t.done g.onward.done (rest_of m steps g.onward.fs)));
      written = λ before w. g.onward.written (before ++ t.done) (t.written before w) ∙ ap (λ (q : List ℕ). Some q) (append_assoc before t.done g.onward.done);
    }

    pub goes_no_further : {T : Type 0} (e : Stop) (r : Result T Stop) → IsErrAnd r (λ y. y ≡ e) → GoesOn {T = X} c root start steps (rest_of m steps (t.f ∷ t.fs)) k1 (Err e) p b' k2 → PrintsOver c root text k r p k2
    goes_no_further {T} e (Ok x) same g = absurd same
    goes_no_further {T} e (Err y) same g = record {
      over = g.over;
      whole = λ before w. tt;
      part = λ before w. part_later t.done _ text before k2.written t.is (g.part (before ++ t.done) (t.written before w));
      undamaged = stopped_so {T = T} (Err y) e same g.undamaged;
    }

  -- ---- the end

  pub ends : {T : Type 0} (v : T) (root : Root) (b : Below) (k' : SinkState) (p : PoolState) → IsOver c root p → b.frames.items ≡ [] → IsOnward c start steps text k b k' → PrintsOver c root text k (Ok v) p k'
  ends {T} v root b k' p over none on =
      let e = none_open c b.path.items on.fs (subst (λ (xs : List Frame). IsStack c b.path.items on.fs xs) none on.stack) in
      let all : text ≡ on.done = on.is ∙ (ap (λ (xs : List OpenDir). on.done ++ rest_of m steps xs) e ∙ (ap (λ (q : List ℕ). on.done ++ q) (nothing_open m steps) ∙ append-nil on.done)) in
      record {
        over = over;
        whole = λ before w. on.written before w ∙ ap (λ (q : List ℕ). Some (before ++ q)) (sym all);
        part = λ before w. tt;
        undamaged = tt;
      }
