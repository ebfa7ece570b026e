-- The text of a listing, put together from its parts.
use Rattle.std.proofs.Common.{◌≡◌, ◌≢◌, ℕ, suc, ◌+◌, List, [], ◌∷◌, ◌++◌, length, true, false, refl, sym, ap, subst, ◌∙◌, arith, append_assoc, append-nil}
use Rattle.std.specs.Prelude.{Option, Some, None, Result, Ok, Err, IfErr, OnOk, OnErr, codes, min, ◌^◌}
use Rattle.std.specs.Result.{IsErrAnd}
use Rattle.r4_base.specs.Image.{Image}
use Rattle.r4_base.specs.Tree.{Name}
use Rattle.r4_base.specs.Value.{Content}
use Rattle.r4_base.specs.Volume.{HasContent, HasStat, IsReached, is_directory}
use Rattle.r4_base.specs.declared.items.Attr.{Attr}
use Rattle.r4_base.specs.declared.items.Target.{Target}
use Rattle.r4_content.specs.Walk.{Walked, At, attr_at, names_in, walk}
use Rattle.r4_outside.specs.Sink.{SinkState, Appends, AppendsPart}
use Rattle.r4_cell.specs.declared.change.Root.{Root}
use Rattle.r4_search.proofs.FromDevice.{tells_image}
use Rattle.r4_search.specs.Pool.{PoolState}
use Rattle.r4_list.specs.Listing.{IsListing, file_text, lines_of, shown_path, text_at, bytes_from}
use Rattle.r4_list.specs.Over.{IsOver}
use Rattle.std.specs.BTreeMap.{BTreeMap}
use Rattle.std.specs.Option.{option_or}
use Rattle.std.proofs.lemmas.Option.{none-some}
use Rattle.r4_base.specs.Image.{block_at}
use Rattle.r4_base.specs.Layout.{IsLawfulSuper}
use Rattle.r4_replay.specs.Homes.{home_in}
use Rattle.r4_cell.specs.Seen.{CellSeen}
use Rattle.r4_search.specs.declared.pool.FetchFault.TheVariants.{Read, Damaged, Memory as NoCell}
use Rattle.r4_list.specs.Lists.{IsUnrefused, PrintsText, stop_fault_of}
use Rattle.r4_open.specs.Opening.{IsSettledBy}
use Rattle.r4_search.specs.Keeping.{Shared, met_in}
use Rattle.r4_search.specs.OnDevice.{block_there, is_image}
use Rattle.r4_list.specs.Pool.{nodes_state}
use Rattle.r4_list.specs.declared.fault.ListFault.{ListFault}
use Rattle.r4_list.specs.Printed.{IsUndamagedStop, PrintsOver}
use Rattle.r4_list.specs.Walking.{IsEnough}
use Rattle.r4_list.specs.declared.fault.Stop.{Stop}
use Rattle.r4_list.specs.declared.fault.Stop.TheVariants.{Fetch, Sink, Memory}
use Rattle.r4_list.proofs.BelowPrints.{printed_whole, same_appends, stopped_writing}
use Rattle.r4_list.proofs.BelowSteps.{part_longer}
use Rattle.r4_list.proofs.BelowBegins.{part_later}
use Rattle.r4_list.proofs.DepthBound.{some_enough}
use Rattle.r4_outside.specs.Device.{State, TellsReads}
use Rattle.r4_list.specs.Printing.{Printed}
use Rattle.r4_list.proofs.Stages.{Went, ended_well, ended_writing, went_both, went_written}
use Rattle.r4_list.proofs.WalkObjects.{attr_stat, reached_raw, reached_stat}

-- ---- a path as lines show it

pub shown_none : (path : List ℕ) → length path ≡ 1 → [] ≡ shown_path path
shown_none [] one = refl
shown_none (x ∷ []) one = refl
shown_none (x ∷ (y ∷ xs)) one = absurd (omega (arith, one))

pub shown_whole : (path : List ℕ) → length path ≢ 1 → path ≡ shown_path path
shown_whole [] more = refl
shown_whole (x ∷ []) more = absurd (more refl)
shown_whole (x ∷ (y ∷ xs)) more = refl

-- ---- two texts, one printed after the other

pub same_listing : {T : Type 0} {n : ℕ} {image : Image} {m : Content} (c : HasContent n image m) (root : Root) (a b : List ℕ) (k l : SinkState) (p : PoolState) (r : Result T Stop) → a ≡ b → PrintsOver c root a k r p l → PrintsOver c root b k r p l
same_listing {T} c root a b k l p r is f = subst (λ (t : List ℕ). PrintsOver c root t k r p l) is f

module _ {n : ℕ} {image : Image} {m : Content} (c : HasContent n image m) (root : Root) (a b text : List ℕ) (is : text ≡ a ++ b) (k l : SinkState) where
  whole_on : {T : Type 0} (r : Result T Stop) (before : List ℕ) (k' : SinkState) → OnOk r (k'.written ≡ Some ((before ++ a) ++ b)) → OnOk r (k'.written ≡ Some (before ++ text))
  whole_on (Ok x) before k' e = e ∙ ap (λ (t : List ℕ). Some t) (append_assoc before a b ∙ ap (λ (t : List ℕ). before ++ t) (sym is))
  whole_on (Err e) before k' h = tt

  part_on : {T : Type 0} (r : Result T Stop) (before : List ℕ) (after : Option (List ℕ)) → OnErr r (AppendsPart b (before ++ a) after) → OnErr r (AppendsPart text before after)
  part_on (Ok x) before after h = tt
  part_on (Err e) before after h = part_later a b text before after is h

  pub printed_on : {X T : Type 0} (x : X) (p q : PoolState) (k' : SinkState) (r : Result T Stop) → PrintsOver {T = X} c root a k (Ok x) p l → PrintsOver c root b l r q k' → PrintsOver c root text k r q k'
  printed_on x p q k' r f s = record {
    over = s.over;
    whole = λ before w. whole_on r before k' (s.whole (before ++ a) (f.whole before w));
    part = λ before w. part_on r before k'.written (s.part (before ++ a) (f.whole before w));
    undamaged = s.undamaged;
  }

  pub printed_first : {X T : Type 0} (e : Stop) (p : PoolState) (r : Result T Stop) → IsErrAnd r (λ y. y ≡ e) → PrintsOver {T = X} c root a k (Err e) p l → PrintsOver c root text k r p l
  printed_first {X} {T} e p (Ok x) bad f = absurd bad
  printed_first {X} {T} e p (Err y) same f = record {
    over = f.over;
    whole = λ before w. tt;
    part = λ before w. part_longer a b text before l.written is (f.part before w);
    undamaged = subst IsUndamagedStop (sym same) f.undamaged;
  }

-- ---- a word

pub word_printed : {T : Type 0} {n : ℕ} {image : Image} {m : Content} (c : HasContent n image m) (root : Root) (word text : List ℕ) (k l : SinkState) (p : PoolState) (r : Result T Stop) → IsOver c root p → text ≡ word → Appends word k r l → IfErr r (λ e. e ≡ Sink) → PrintsOver c root text k r p l
word_printed {T} c root word text k l p (Ok x) over is a none = printed_whole c root text k l p over x x (same_appends word text k l (Ok x) (sym is) a)
word_printed {T} c root word text k l p (Err e) over is a why = stopped_writing {T = T} c root text k l p over {X = T} (Err e) e (same_appends word text k l (Err e) (sym is) a) why

-- that of a path which leads nowhere
pub listed_word : (m : Content) (path text word : List ℕ) (w : Walked) → ((steps : ℕ) → text_at m steps (shown_path path) w ≡ word) → IsListing m path text → w ≡ walk m (names_in path) → text ≡ word
listed_word m path text word w is listing at = listing.is listing.deep (omega arith) ∙ (sym (ap (text_at m listing.deep (shown_path path)) at) ∙ is listing.deep)

-- ---- an object

module _ (n : ℕ) (image : Image) (m : Content) (c : HasContent n image m) where
  pub has_stat : (steps : ℕ) (o : Target) (a : Attr) → IsReached m steps o → attr_at m o ≡ Some a → HasStat m o a
  has_stat steps o a reached stands =
      let (b, stat) = reached_stat n image m c steps o (reached_raw n image m c steps o reached) in
      (stat.0, attr_stat m o a stands)

  pub listed_object : (path text : List ℕ) (o : Target) (a : Attr) → IsListing m path text → At o a ≡ walk m (names_in path) → (steps : ℕ) × IsEnough m steps × (text ≡ lines_of m (suc steps) o (shown_path path) ++ file_text m o a)
  listed_object path text o a listing at =
      let (deep, enough) = some_enough n image m c in
      let steps : ℕ = listing.deep + deep in
      (steps, enough steps (omega arith), listing.is (suc steps) (omega arith) ∙ sym (ap (text_at m (suc steps) (shown_path path)) at))

pub no_bytes : (m : Content) (o : Target) (a : Attr) (lines : List ℕ) → is_directory a ≡ true → lines ++ file_text m o a ≡ lines
no_bytes m o a lines dir = rw (dir) (append-nil lines)

pub some_bytes : (m : Content) (o : Target) (a : Attr) → is_directory a ≡ false → file_text m o a ≡ bytes_from m o (min a.size (2 ^ 30)) 0 ++ codes "\n"
some_bytes m o a file = rw (file) refl

-- a word that was printed at the end
pub word_ended : {T : Type 0} (root : Root) (old mid : PoolState) (k0 k l : SinkState) (a b : State) (word : List ℕ) (r : Result T Stop) → Went old mid a b k0 k → Appends word k r l → IfErr r (λ e. e ≡ Sink) → Printed root old k0 r mid l a b
word_ended {T} root old mid k0 k l a b word (Ok x) w ap why = ended_well _ _ _ _ _ _ _ (went_both _ _ _ _ _ _ _ _ _ w (went_written word mid b k l (Ok x) ap)) x
word_ended {T} root old mid k0 k l a b word (Err e) w ap why = ended_writing _ _ _ _ _ _ _ w word l (Err e) e ap why

-- ---- a fresh pool over a device, and what is answered where printing ended

pub settled_is : (d : State) (homes : BTreeMap ℕ ℕ) → is_image d.blocks d.seen ≡ true → (i : ℕ) → block_there d (home_in homes) i ≡ Some (block_at d.seen (home_in homes i))
settled_is d homes whole i = rw (whole) refl

pub fresh_over : {n : ℕ} {image : Image} {m : Content} (c : HasContent n image m) (d : State) (homes : BTreeMap ℕ ℕ) (blocks : ℕ) (met : List (ℕ × Shared)) (first : Name) (root : Root) → TellsReads d → n ≡ d.blocks → IsSettledBy d homes image
    → IsLawfulSuper d.blocks c.super → blocks ≡ c.super.block_count → root.id.0 ≡ c.super.root_block → root.height ≡ c.super.tree_height → ((i : ℕ) → met_in met i ≡ None) → IsOver c root (nodes_state first d homes blocks met)
fresh_over {n} {image} {m} c d homes blocks met first root tells same settled lawful count at high empty = record {
  blocks = count;
  root_is = cc (at, high);
  meant = λ i node is. settled_is d homes (tells_image d.blocks d.seen tells) i ∙ ap (λ (b : List ℕ). Some b) (sym (settled i));
  kept = λ i k is. absurd (none_kept (empty i) is);
}
  where
    none_kept : {k : CellSeen} {o : Option CellSeen} → o ≡ None → option_or o None ≡ Some k → ⊥
    none_kept {k} {o} a b = none-some k (sym (ap (λ (x : Option CellSeen). option_or x None) a) ∙ b)

-- what was printed over the tree of a content is the text of what is answered
pub text_well : {n : ℕ} {image : Image} {m : Content} (c : HasContent n image m) (root : Root) (text : List ℕ) (k l : SinkState) (p : PoolState) {X T : Type 0} (x : X) (v : T) → PrintsOver {T = X} c root text k (Ok x) p l → PrintsText text k (Ok v) l
text_well c root text k l p {X} {T} x v f = record { whole = f.whole; part = λ before w. tt; unrefused = tt }

stop_unrefused : (stop : Stop) (clock faults sink : ℕ) → IsUndamagedStop stop → IsUnrefused (stop_fault_of stop clock faults sink)
stop_unrefused (Fetch (Read at f)) clock faults sink u = tt
stop_unrefused (Fetch (Damaged at f)) clock faults sink u = absurd u
stop_unrefused (Fetch NoCell) clock faults sink u = tt
stop_unrefused Sink clock faults sink u = tt
stop_unrefused Memory clock faults sink u = tt

pub text_stopped : {n : ℕ} {image : Image} {m : Content} (c : HasContent n image m) (root : Root) (text : List ℕ) (k l : SinkState) (p : PoolState) {X T : Type 0} (stop : Stop) (clock faults : ℕ) (e : ListFault) (r : Result T ListFault) → r ≡ Err e → e ≡ stop_fault_of stop clock faults l.faults → PrintsOver {T = X} c root text k (Err stop) p l → PrintsText text k r l
text_stopped c root text k l p {X} {T} stop clock faults e r is same f = subst (λ (z : Result T ListFault). PrintsText text k z l) (sym is) (record {
  whole = λ before w. tt;
  part = λ before w. f.part before w;
  unrefused = subst IsUnrefused (sym same) (stop_unrefused stop clock faults l.faults f.undamaged);
})
