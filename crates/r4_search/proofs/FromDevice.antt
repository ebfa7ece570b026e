-- What is read from a device, as a pool answers it.
use Rattle.std.proofs.Common.{◌≡◌, inr, ℕ, zero, suc, ◌^◌, ◌<◌, ◌≤◌, Bool, true, false, List, [], ◌∷◌, length, refl, sym, ap, subst, ◌∙◌, arith}
use Rattle.std.specs.Prelude.{Option, Some, None, Result, Ok, Err, OnErr, OnOk, ◌==◌, if◌then◌else◌}
use Rattle.std.specs.Borrow.{GName}
use Rattle.std.specs.List.{list_all}
use Rattle.std.specs.Result.{is_err}
use Rattle.std.proofs.lemmas.Bool.{and_parts, eq-eqb, eqb-true}
use Rattle.std.proofs.lemmas.Option.{none-some, same_Some}
use Rattle.r4_base.specs.Cell.{cell_fault}
use Rattle.r4_base.specs.Image.{Image, IsImage, block_at}
use Rattle.r4_base.specs.Key.{rank}
use Rattle.r4_base.specs.Tree.{Name}
use Rattle.r4_base.specs.declared.items.CellFault.{CellFault}
use Rattle.r4_base.specs.declared.things.BlockNo.{BlockNo}
use Rattle.r4_outside.specs.Device.{State, TellsReads, lent_to, Goes as DeviceGoes}
use Rattle.r4_outside.proofs.Lent.{goes_lent}
use Rattle.r4_cell.specs.Seen.{CellSeen}
use Rattle.r4_cell.proofs.Faults.{cell_still}
use Rattle.r4_cell.proofs.NamesBelow.{names_below}
use Rattle.r4_search.specs.Pool.{PoolState, FaultIs, Fetches, Goes, IsAnswer, IsFrom, IsKeptOrRead, IsKnown, IsNamed, IsRead, IsRefused, KnowsNames, LeavesDevice, Rose}
use Rattle.r4_search.specs.OnDevice.{IsMadeOf, Places, block_there, device_state, is_image}
use Rattle.r4_search.specs.declared.pool.FetchFault.{FetchFault}
use Rattle.r4_search.specs.declared.pool.FetchFault.TheVariants.{Read, Damaged, Memory}
use Rattle.r4_search.proofs.Walks.{hangs_on, known_on, named_below, named_on}

-- ---- whether a list of blocks is an image

all_whole : (image : Image) → list_all (λ (b : List ℕ). length b == 4096) image ≡ true → (b : ℕ) → b < length image → length (block_at image b) ≡ 4096
all_whole [] all b lt = absurd (omega (arith, lt))
all_whole (x ∷ image) all zero lt = eqb-true _ _ (and_parts (length x == 4096) (list_all (λ (b : List ℕ). length b == 4096) image) all).0
all_whole (x ∷ image) all (suc b) lt = all_whole image (and_parts (length x == 4096) (list_all (λ (b : List ℕ). length b == 4096) image) all).1 b (omega (arith, lt))

pub is_whole : (n : ℕ) (image : Image) → is_image n image ≡ true → IsImage n image
is_whole n image h =
    let both = and_parts (length image == n) (list_all (λ (b : List ℕ). length b == 4096) image) h in
    let blocks : length image ≡ n = eqb-true _ _ both.0 in
    record { blocks = blocks; whole = λ b lt. all_whole image both.1 b (omega (arith, lt, blocks)) }

all_images : (image : Image) → ((b : ℕ) → b < length image → length (block_at image b) ≡ 4096)
    → list_all (λ (b : List ℕ). length b == 4096) image ≡ true
all_images [] whole = refl
all_images (x ∷ image) whole =
    let first : (length x == 4096) ≡ true = eq-eqb _ _ (whole 0 (omega arith)) in
    let rest = all_images image (λ b lt. whole (suc b) (omega (arith, lt))) in
    rw (first, rest) refl

pub tells_image : (n : ℕ) (image : Image) → IsImage n image → is_image n image ≡ true
tells_image n image is =
    let size : (length image == n) ≡ true = eq-eqb _ _ is.blocks in
    let blocks = is.blocks in
    let all = all_images image (λ b lt. is.whole b (omega (arith, lt, blocks))) in
    rw (size, all) refl

-- what is so of the block that reading gives, where the device tells it, is so of the one that is meant
pub meant_too : (d : State) (home : ℕ → ℕ) (i : ℕ) (P : List ℕ → Type 0) → (TellsReads d → P (block_at d.seen (home i))) → (b : List ℕ) → block_there d home i ≡ Some b → P b
meant_too d home i P p b h = told (is_image d.blocks d.seen) refl h
  where
    told : (t : Bool) → is_image d.blocks d.seen ≡ t → (if t then Some (block_at d.seen (home i)) else None) ≡ Some b → P b
    told true is g = subst P (same_Some _ b g) (p (is_whole d.blocks d.seen is))
    told false is g = absurd cc

pub is_read : (d : State) (home : ℕ → ℕ) (i blocks : ℕ) (x : CellSeen) → (TellsReads d → x.block ≡ block_at d.seen (home i)) → cell_fault false blocks x.level (rank x.lo) (rank x.hi) x.block ≡ None → (o : Option (List ℕ)) → block_there d home i ≡ o → IsRead blocks o x
is_read d home i blocks x same sound None h = sound
is_read d home i blocks x same sound (Some b) h =
    let is = meant_too d home i (λ (y : List ℕ). x.block ≡ y) same b h in
    (is, subst (λ (y : List ℕ). cell_fault false blocks x.level (rank x.lo) (rank x.hi) y ≡ None) is sound)

pub meant_same : (d e : State) (home : ℕ → ℕ) (i : ℕ) → e.blocks ≡ d.blocks → e.seen ≡ d.seen → block_there e home i ≡ block_there d home i
meant_same d e home i blocks seen =
    ap (λ (n : ℕ). if is_image n e.seen then Some (block_at e.seen (home i)) else None) blocks
    ∙ ap (λ (s : Image). if is_image d.blocks s then Some (block_at s (home i)) else None) seen

-- ---- a call that keeps nothing

module _ {T : Type 0} (view : T → CellSeen) (at : Places) (d e : State) (goes : DeviceGoes d e) (seen : e.seen ≡ d.seen) (n : Name) where
  abbrev pub old : PoolState
  old = device_state at d

  abbrev pub new : PoolState
  new = device_state at e

  same_meant : (i : ℕ) → new.meant i ≡ old.meant i
  same_meant i = meant_same d e at.home i goes.blocks seen

  kept_same : (i : ℕ) (c : CellSeen) → old.kept i ≡ Some c → new.kept i ≡ Some c
  kept_same i c h = h

  pub idle_goes : Goes old new
  idle_goes = record {
    root = refl;
    blocks = refl;
    faults = goes.faults;
    meant = same_meant;
    kept = kept_same;
    added = λ i c h before. absurd (none-some c (sym before ∙ h));
    known = known_on old new refl refl same_meant kept_same;
    hangs = hangs_on old new refl refl same_meant kept_same (λ i c h before. absurd (none-some c (sym before ∙ h)));
    met = λ i c h. h;
    added_met = λ i c h before. absurd (none-some c h);
    keeps = λ level. refl;
  }

  pub stops : (f : FetchFault) → IsRefused n old f new → Fetches view n old (Err f) new
  stops f why = record {
    goes = idle_goes;
    only = λ i c h before. absurd (none-some c (sym before ∙ h));
    only_met = λ i c h before. absurd (none-some c h);
    still = λ keeps i. refl;
    ok = tt;
    met = tt;
    err = why;
  }

  pub answers : (y : T) → IsAnswer n old (view y) new → Fetches view n old (Ok y) new
  answers y answer = record {
    goes = idle_goes;
    only = λ i c h before. absurd (none-some c (sym before ∙ h));
    only_met = λ i c h before. absurd (none-some c h);
    still = λ keeps i. refl;
    ok = answer;
    met = λ keeps. absurd cc;
    err = tt;
  }

  module _ (none : at.kept n.id ≡ None) where
    -- the block was not read
    pub unread : (b : BlockNo) (faults : ℕ) → b.0 ≡ n.id → Rose d.faults e.faults → faults ≡ e.faults → Fetches view n old (Err (Read b faults)) new
    unread b faults is rose same = stops (Read b faults) (none, is, rose, same)

    -- the block is refused
    refusal : (b : BlockNo) (fault : CellFault) (got : List ℕ) → (TellsReads d → got ≡ block_at d.seen (at.home n.id)) → b.0 ≡ n.id → cell_fault false at.blocks n.level n.lo n.hi got ≡ Some fault
        → Fetches view n old (Err (Damaged b fault)) new
    refusal b fault got told is refused = stops (Damaged b fault) (is, subst (λ (o : Option CellSeen). FaultIs at.blocks n o (block_there d at.home n.id) (Some fault)) (sym none) (by_block (block_there d at.home n.id) refl))
      where
        by_block : (o : Option (List ℕ)) → block_there d at.home n.id ≡ o → FaultIs at.blocks n None o (Some fault)
        by_block None h = tt
        by_block (Some x) h = sym (meant_too d at.home n.id (λ (y : List ℕ). cell_fault false at.blocks n.level n.lo n.hi y ≡ Some fault) (λ tells. ap (cell_fault false at.blocks n.level n.lo n.hi) (sym (told tells)) ∙ refused) x h)

    -- a cell was made of it
    pub answered : (y : T) (x : CellSeen) → view y ≡ x → IsNamed n x → IsKnown old n → at.blocks ≤ 2 ^ 64 → (TellsReads d → x.block ≡ block_at d.seen (at.home n.id))
        → cell_fault false at.blocks x.level (rank x.lo) (rank x.hi) x.block ≡ None → Fetches view n old (Ok y) new
    answered y x same is known small told sound = answers y (subst (λ (c : CellSeen). IsAnswer n old c new) (sym same) answer)
      where
        read : IsRead at.blocks (block_there d at.home x.id) x
        read = is_read d at.home x.id at.blocks x (λ tells. told tells ∙ ap (λ (i : ℕ). block_at d.seen (at.home i)) (sym is.id)) sound (block_there d at.home x.id) refl

        absent : at.kept x.id ≡ None
        absent = ap at.kept is.id ∙ none

        of : IsKeptOrRead at.blocks (at.kept x.id) (block_there d at.home x.id) x
        of = subst (λ (o : Option CellSeen). IsKeptOrRead at.blocks o (block_there d at.home x.id) x) (sym absent) read

        from : IsFrom new x
        from = inr (subst (λ (o : Option (List ℕ)). IsRead at.blocks o x) (sym (same_meant x.id)) read)

        knows : KnowsNames new x
        knows m has = record {
          stands = inr (names_below at.blocks x.level (rank x.lo) (rank x.hi) x.block m sound has);
          named = named_below at.root (IsFrom new) n m x (named_on old new refl refl same_meant kept_same n known.named) is from has;
        }

        answer : IsAnswer n old x new
        answer = record { named = is; is_of = of; stands = cell_still false at.blocks (2 ^ 64) x.level (rank x.lo) (rank x.hi) x.block small sound; knows = knows }

    -- what was made of a block that was read
    pub made : (got : List ℕ) (r : Result T FetchFault) → IsMadeOf view at.blocks n got r → IsKnown old n → at.blocks ≤ 2 ^ 64 → (TellsReads d → got ≡ block_at d.seen (at.home n.id))
        → Fetches view n old r new
    made got (Ok y) m known small told = answered y (view y) refl m.0 known small (λ tells. m.1 ∙ told tells)
        (subst (λ (b : List ℕ). cell_fault false at.blocks (view y).level (rank (view y).lo) (rank (view y).hi) b ≡ None) (sym m.1) m.2)
    made got (Err (Read b faults)) m known small told = absurd m
    made got (Err (Damaged b fault)) m known small told = refusal b fault got told m.0 m.1
    made got (Err Memory) m known small told = stops Memory tt

-- ---- what a call promises by how it ends

pub well : {T E : Type 0} (r : Result T E) (P : Type 0) → is_err r ≡ false → OnOk r P → P
well {T} {E} (Ok x) P h p = p
well {T} {E} (Err e) P h p = absurd cc

-- where a call failed, what it promises then
pub ill : {T E : Type 0} (r : Result T E) (P : Type 0) → is_err r ≡ true → OnErr r P → P
ill {T} {E} (Ok x) P h p = absurd cc
ill {T} {E} (Err e) P h p = p

-- What was lent is left as it was.
pub lent_stays : (n m : GName) (old new : State) → LeavesDevice (lent_to n old) (lent_to m new)
    → LeavesDevice old new
lent_stays n m old new l = record {
  goes = goes_lent n m old new l.goes;
  idle = record { seen = l.idle.seen; clock = l.idle.clock };
}
