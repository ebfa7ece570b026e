-- What cells need after a change, and what they ask of those that name them (docs/volume.md, "Reach"). A key is its
-- rank.
use Rattle.std.specs.Prelude.{ℕ, zero, suc, ◌+◌, ◌-◌, ◌*◌, ◌/◌, ◌^◌, List, [], ◌∷◌, length, take}
use Rattle.std.specs.Prelude.{drop, sum_by, Bool, true, false, not, ◌&&◌, ◌||◌, ◌==◌, nat_le, nat_lt, if◌then◌else◌}
use Rattle.std.specs.Prelude.{Option, Some, None}
use Rattle.std.specs.List.{filter, flat_map, list_any}
use Rattle.r4_base.specs.Extents.{is_hole}
use Rattle.r4_base.specs.Key.{key_of_rank, rank}
use Rattle.r4_base.specs.Node.{items_of}
use Rattle.r4_base.specs.Tree.{Name, Node, Span}
use Rattle.r4_base.specs.Value.{Value}
use Rattle.r4_path.specs.r4_branch.Pieces.{is_at, last_end, pieces_in, twig_bytes}
use Rattle.r4_path.specs.r4_branch.declared.piece.TwigPart.{TwigPart}
use Rattle.r4_path.specs.r4_branch.declared.piece.TwigPart.TheVariants.{Blocks, Pointer}
use Rattle.r4_path.specs.r4_branch.declared.piece.TwigPiece.{TwigPiece}
use Rattle.r4_content.specs.Bodies.{larger, smaller}
use Rattle.r4_content.specs.Edited.{Edits, Intervals, Pairs, is_in, put_keys}
use Rattle.r4_content.specs.Listed.{list_edited}
use Rattle.r4_content.specs.declared.command.Command.{Command}
use Rattle.r4_path.specs.r4_graft.Splices.{parted, place, spliced}
use Rattle.r4_path.specs.r4_leaf.Units.{LeafUnit, is_between, leaf_bytes}
use Rattle.r4_path.specs.Nodes.{weight}
use Rattle.r4_reach.specs.Demand.{Demand}
use Rattle.r4_reach.specs.Reach.{is_body}
use Rattle.r4_reach.specs.Touched.{Body, body_on, changes_on, coming, edits_on, first_byte, going, is_spread}
use Rattle.r4_reach.specs.Touched.{reads_on, turns_out}

-- ---- which cells have a changed key

abbrev pub meets : (lo hi : ℕ) → ℕ × ℕ → Bool
meets lo hi r = nat_lt (larger lo r.0) (smaller hi r.1)

abbrev pub is_met : Intervals → (lo hi : ℕ) → Bool
is_met rs lo hi = list_any (meets lo hi) rs

-- a changed key lies in the leaf, or in an extent of the twig
abbrev pub is_touched : Intervals → Node Value → Bool
is_touched rs c = if c.level == 1 then is_met rs c.lo c.hi else list_any (λ (s : Span). is_met rs s.lo s.hi) c.spans

-- ---- what is asked of the cell that names another

-- so many pointers more, and that the one to it goes
pub record Ask : Type 0 where
  pub more : ℕ
  pub gone : Bool

-- how many new cells a cell counts for that needs so many bytes for its items: none where they fit
abbrev pub over : ℕ → ℕ
over n = if nat_lt 4068 n then 1 + (n - 4068 + 1023) / 1024 else 0

abbrev pub asking : (always : Bool) → Ask → Option Ask
asking always a = if always || (nat_lt 0 a.more || a.gone) then Some a else None

abbrev pub all_more : List (Name × Ask) → ℕ
all_more hs = sum_by (λ h. h.1.more) hs

abbrev pub all_gone : List (Name × Ask) → ℕ
all_gone hs = sum_by (λ h. if h.1.gone then 1 else 0) hs

-- ---- a leaf

-- the edits of leaves: where the body is in extents afterwards, its bytes are not among them
abbrev pub leaf_edits : Option Body → Edits → Edits
leaf_edits None e = e
leaf_edits (Some b) e =
    if is_spread b then record {
      cuts = (first_byte b, first_byte b + 2 ^ 64) ∷ e.cuts;
      zeros = [];
      puts = filter
          (λ p. not (is_body p.0)) e.puts;
    }
    else e

abbrev pub units_after : Option Body → Edits → Node Value → List LeafUnit
units_after b e c = filter (λ u. is_between c.lo c.hi u.0) (list_edited (leaf_edits b e) c.units)

abbrev pub come_of : Option Body → ℕ × ℕ
come_of None = (0, 0)
come_of (Some b) = coming b

-- blocks come into the leaf's range between units that stay: it is cut in two, which counts for one
abbrev pub cut_in_two : ℕ × ℕ → Node Value → List LeafUnit → ℕ
cut_in_two come c us = if nat_lt c.lo come.0 && list_any (λ u. nat_le come.1 u.0) us then 1 else 0

-- nothing of its range is left, and it has no units
abbrev pub is_gone : ℕ × ℕ → Node Value → List LeafUnit → Bool
is_gone come c us = nat_le come.0 c.lo && (length us == 0)

abbrev pub leaf_asks : Option Body → Edits → Node Value → Option Ask
leaf_asks b e c =
    let us = units_after b e c in
    if meets c.lo c.hi (come_of b) then asking true
    (record { more = over (leaf_bytes us) + cut_in_two (come_of b) c us; gone = is_gone (come_of b) c us })
    else asking false (record { more = over (leaf_bytes us); gone = false })

-- ---- a twig

-- blocks one after the other: each that gets bytes is a unit of its own, of a new block, and others are in holes. (Of
-- a new block's number
-- only its room is told.)
abbrev pub widened : (key : ℕ) → List TwigPiece → List TwigPiece
widened k [] = record { key = key_of_rank k; part = Blocks (record { start = 0; width = 1 }) } ∷ []
widened k (p ∷ ps) = by_part p.part
  where
    by_part : TwigPart → List TwigPiece
    by_part (Pointer to) = record { key = key_of_rank k; part = Blocks (record { start = 0; width = 1 }) } ∷ (p ∷ ps)
    by_part (Blocks u) =
        if is_hole u then record { key = key_of_rank k; part = Blocks (record u { width = u.width + 1 }) } ∷ ps
        else record { key = key_of_rank k; part = Blocks (record { start = 0; width = 1 }) } ∷ (p ∷ ps)

abbrev pub runs : (gets : ℕ → Bool) → (key count : ℕ) → List TwigPiece
runs gets k zero = []
runs gets k (suc n) =
    let rest = runs gets (k + 4096) n in
    if gets k then record { key = key_of_rank k; part = Blocks (record { start = 2 ^ 63; width = 1 }) } ∷ rest else
    widened k rest

-- the block at a key gets bytes: some are put there, or it had some in tails
abbrev pub gets_bytes : Body → Edits → (key : ℕ) → Bool
gets_bytes b e k = is_met (put_keys e.puts) k (k + 4096) || (turns_out b && nat_lt k (first_byte b + b.was))

-- a hole of the body, with blocks in it
abbrev pub filled : Body → Edits → TwigPiece → List TwigPiece
filled b e p = by_part p.part
  where
    by_part : TwigPart → List TwigPiece
    by_part (Pointer to) = p ∷ []
    by_part (Blocks u) =
        if is_hole u && is_between (first_byte b) (first_byte b + 2 ^ 64) (rank p.key) then runs (gets_bytes b e)
        (rank p.key) u.width else p ∷ []

-- the pieces without the blocks that go: their range goes to the extent or the leaf before them, else to a new leaf
abbrev pub has_left_leaf : Node Value → (key : ℕ) → Bool
has_left_leaf c k = list_any (λ (n : Name). (n.level == 1) && (n.hi == k)) c.names

abbrev pub pointer_at : (key : ℕ) → List TwigPiece
pointer_at k = record { key = key_of_rank k; part = Pointer (record { 0 = 2 ^ 63 }) } ∷ []

abbrev pub taken_up : Node Value → (below between : List TwigPiece) → List TwigPiece
taken_up c below [] = []
taken_up c below (p ∷ ps) = if has_left_leaf c (rank p.key)
    || is_at (last_end None below) (rank p.key) then [] else pointer_at (rank p.key)

abbrev pub cut_pieces : ℕ × ℕ → Node Value → List TwigPiece → List TwigPiece
cut_pieces r c ps = by_parted (parted r.1 (parted r.0 ps))
  where
    by_parted : List TwigPiece → List TwigPiece
    by_parted qs = spliced (place r.0 qs) (place r.1 qs)
        (taken_up c (take (place r.0 qs) qs) (take (place r.1 qs - place r.0 qs) (drop (place r.0 qs) qs))) qs

-- the pieces with the blocks that come, where the first of them lies in the twig's range
abbrev pub with_coming : Body → Edits → Node Value → List TwigPiece → List TwigPiece
with_coming b e c ps =
    if is_between c.lo c.hi (coming b).0 then spliced (place (coming b).0 ps) (place (coming b).0 ps)
    (runs (gets_bytes b e) (coming b).0 (((coming b).1 - (coming b).0) / 4096)) ps
    else ps

-- and without the pointers to leaves that go
abbrev pub points_to : (id : ℕ) → TwigPart → Bool
points_to id (Pointer to) = to.0 == id
points_to id (Blocks u) = false

abbrev pub without_gone : List (Name × Ask) → List TwigPiece → List TwigPiece
without_gone hs ps = filter (λ p. not (list_any (λ h. h.1.gone && points_to h.0.id p.part) hs)) ps

abbrev pub pieces_after : Option Body → Edits → Node Value → List (Name × Ask) → List TwigPiece
pieces_after None e c hs = without_gone hs (pieces_in (items_of c.block))
pieces_after (Some b) e c hs = with_coming b e c
    (flat_map (filled b e) (cut_pieces (going b) c (without_gone hs (pieces_in (items_of c.block)))))

-- the border of a node lies within the blocks that come, and moves
abbrev pub moves : ℕ × ℕ → Node Value → Bool
moves come c = (nat_lt come.0 c.lo && nat_lt c.lo come.1) || (nat_lt come.0 c.hi && nat_lt c.hi come.1)

-- How many pointers come for values that are put into an extent of the twig, and are no bytes of a body in extents:
-- those of one extent's
-- range go to one new leaf, which may be too full.
abbrev pub leaves_for : List LeafUnit → ℕ
leaves_for [] = 0
leaves_for (u ∷ us) = 1 + over (leaf_bytes (u ∷ us))

abbrev pub put_among : Option Body → Edits → Node Value → ℕ
put_among b e c = sum_by (λ (s : Span). leaves_for
    (filter (λ u. is_between s.lo s.hi u.0) (list_edited (leaf_edits b e) []))) c.spans

-- blocks of the piece go
abbrev pub goes_in : ℕ × ℕ → TwigPiece → TwigPart → Bool
goes_in r p (Pointer to) = false
goes_in r p (Blocks u) = meets (rank p.key) (rank p.key + 4096 * u.width) r

abbrev pub is_hole_part : TwigPart → Bool
is_hole_part (Pointer to) = false
is_hole_part (Blocks u) = is_hole u

-- an extent's unit comes or goes, or is replaced, or another value comes among the extents
abbrev pub changes_pieces : Option Body → Edits → Node Value → Bool
changes_pieces None e c = nat_lt 0 (put_among None e c)
changes_pieces (Some b) e c =
    nat_lt 0 (put_among (Some b) e c)
    || (list_any (λ (s : Span). is_between s.lo s.hi (coming b).0 && nat_lt (coming b).0 (coming b).1) c.spans
    || (list_any (λ p. goes_in (going b) p p.part) (pieces_in (items_of c.block))
    || list_any (λ p. is_refilled p (filled b e p)) (pieces_in (items_of c.block))))
  where
    is_refilled : TwigPiece → List TwigPiece → Bool
    is_refilled p [] = false
    is_refilled p (q ∷ qs) = not (length qs == 0) || (is_hole_part p.part && not (is_hole_part q.part))

-- A twig whose pieces change is packed anew, and what it needs is what its pieces need; one that only gets pointers
-- keeps its items.
abbrev pub twig_need : Option Body → Edits → Node Value → List (Name × Ask) → ℕ
twig_need b e c hs =
    if changes_pieces b e c || meets c.lo c.hi (come_of b) then twig_bytes (pieces_after b e c hs) + 46 *
    (all_more hs + put_among b e c)
    else weight (items_of c.block) + 46 * all_more hs

-- so many of the cells that it names ask for pointers
abbrev pub growing : List (Name × Ask) → ℕ
growing hs = sum_by (λ h. if nat_lt 0 h.1.more then 1 else 0) hs

-- Where a twig needs too much, each leaf for which pointers come may part it once.
abbrev pub twig_more : Option Body → Edits → Node Value → List (Name × Ask) → ℕ
twig_more b e c hs = if nat_lt 4068 (twig_need b e c hs) then larger (over (twig_need b e c hs)) (growing hs) else 0

abbrev pub twig_asks : Option Body → Edits → Node Value → List (Name × Ask) → Option Ask
twig_asks b e c hs = asking (moves (come_of b) c)
    (record {
      more = twig_more b e c hs;
      gone = meets c.lo c.hi (come_of b)
          && (length (pieces_after b e c hs) == 0);
    })

-- ---- a node above the twigs

abbrev pub pointers_gone : ℕ × ℕ → Node Value → List (Name × Ask) → ℕ
pointers_gone come c hs = if meets c.lo c.hi come then all_gone hs else 0

abbrev pub node_need : Option Body → Node Value → List (Name × Ask) → ℕ
node_need b c hs = weight (items_of c.block) + 46 * all_more hs - 46 * pointers_gone (come_of b) c hs

abbrev pub node_asks : Option Body → Node Value → List (Name × Ask) → Option Ask
node_asks b c hs = asking (moves (come_of b) c)
    (record { more = over (node_need b c hs); gone = meets c.lo c.hi (come_of b) && (length c.names == all_gone hs) })

-- ---- all of it

abbrev pub cell_asks : Option Body → Edits → Intervals → Node Value → List (Name × Ask) → Option Ask
cell_asks b e rs c hs =
    if is_touched rs c || not (length hs == 0) then
    (if c.level == 1 then leaf_asks b e c else (if c.level == 2 then twig_asks b e c hs else node_asks b c hs))
    else None

abbrev pub twig_turns : Option Body → Edits → Intervals → Node Value → Bool
twig_turns b e rs c = is_touched rs c && ((c.level == 2) && changes_pieces b e c)

-- the leaf directly left of blocks that go, whose range takes up theirs
abbrev pub going_of : Option Body → ℕ × ℕ
going_of None = (0, 0)
going_of (Some b) = going b

abbrev pub left_leaves : Option Body → Node Value → List Name
left_leaves b c = filter (λ (n : Name). (n.level == 1)
    && ((n.hi == (going_of b).0) && nat_lt (going_of b).0 (going_of b).1)) c.names

abbrev pub demand_of : Option Body → Edits → (reads changes : Intervals) → Demand Ask
demand_of b e reads changes = record {
  reads = is_in reads;
  changes = is_in changes;
  asks = cell_asks b e changes;
  turns = twig_turns b e changes;
  beside = left_leaves b;
}

-- what a command asks of a tree, on what was seen, where the body that it changes stands in extents or not
abbrev pub demand_on : Command → Pairs → (in_extents : Bool) → Demand Ask
demand_on c s in_extents = demand_of (body_on c s in_extents) (edits_on c s) (reads_on c s in_extents)
    (changes_on c s in_extents)
