-- What is known of a command, step by step.
use Rattle.std.proofs.Common.{◌≡◌, inl, inr, ℕ, ◌<◌, ◌≤◌, Bool, false, List, sym, ap, subst, ◌∙◌}
use Rattle.std.specs.Prelude.{◌||◌, Option, Some, None}
use Rattle.std.specs.Option.{option_map}
use Rattle.r4_base.specs.Key.{least, top}
use Rattle.r4_base.specs.declared.items.CellFault.TheVariants.{Range}
use Rattle.r4_extent_commands.specs.r4_cell.Seen.{CellSeen}
use Rattle.r4_extent_commands.specs.r4_cell.declared.change.Root.{Root}
use Rattle.r4_content.specs.Edited.{Edits, Intervals, changed, is_in}
use Rattle.r4_content.specs.Fields.{HasBytePaths}
use Rattle.r4_content.specs.Held.{edits_of, pairs_of}
use Rattle.r4_content.specs.declared.command.Command.{Command}
use Rattle.r4_content.specs.declared.edits.Edits.{Edits as HeldEdits}
use Rattle.r4_content.specs.declared.seen.Seen.{Seen}
use Rattle.r4_extent_commands.specs.Bodies.{HaveSizes}
use Rattle.r4_extent_commands.proofs.Told.{keeps_file_size, lies_in_body}
use Rattle.r4_extent_asks.specs.r4_extent_demands.Sizes.{AreExtentEdits}
use Rattle.r4_extent_asks.proofs.r4_extent_demands.OfCommands.{command_asks}
use Rattle.r4_extent_reaching.specs.Answers.{StopsWriting}
use Rattle.r4_extent_reaching.specs.Meeting.{AreReadKeys, IsTouched, Planned}
use Rattle.r4_extent_reaching.specs.Standing.{HasFileSizes, IsTooLong}
use Rattle.r4_extent_reaching.proofs.Told.{told_is_so}
use Rattle.r4_extent_reaching.specs.r4_touching.r4_reach.Touched.{Body, IsKindIn, body_key, body_of, body_on, changes_on, edits_on, kind_reads, raw_changes}
use Rattle.r4_extent_reaching.specs.r4_reaching.Answers.{HaveObjectNumbers, IsAllSeen, SeesLowObject}
use Rattle.r4_extent_reaching.specs.r4_reaching.Gathering.{IsPartMet}
use Rattle.r4_extent_reaching.proofs.r4_reaching.Found.{found_inside, found_lawful}
use Rattle.r4_extent_reaching.proofs.r4_reaching.Planned.{ChangesLawfulKeys, suits}
use Rattle.r4_extent_reaching.proofs.r4_reaching.Touched.{seen_in}
use Rattle.r4_extent_asks.specs.r4_search.Keeping.{Shared, WereAnswered, keeping_state}
use Rattle.r4_extent_asks.specs.r4_search.Pool.{PoolState}
use Rattle.r4_extent_asks.specs.r4_search.declared.pool.FetchFault.{FetchFault}
use Rattle.r4_extent_asks.specs.r4_search.declared.pool.FetchFault.TheVariants.{Damaged}
use Rattle.r4_extent_reaching.specs.r4_touching.r4_seeing.Looking.{met_cells}
use Rattle.r4_extent_reaching.specs.r4_spared.Spared.{AreObjectsSeen}
use Rattle.r4_extent_commands.specs.r4_suited.Suited.{AreLawfulSeen}
use Rattle.r4_extent_reach.specs.Known.{HasBody, HasEdits, IsMetFor}
use Rattle.r4_extent_reach.specs.Standing.{IsStood, IsTold, MayBeShown, stood}
use Rattle.r4_extent_reach.proofs.Numbers.{objects_seen, stops_at_object}
use Rattle.r4_extent_reach.proofs.Stood.{changes_lawful, has_sizes, is_sized, same_reads, shown_lawful, stood_body}

-- ---- the edits

module _ (below : PoolState) (all : Bool) (met : List (ℕ × Shared)) (answered : WereAnswered below met) (root : Root)
    (c : Command) (s : Seen) (known questions : Intervals)
    (h : IsAllSeen (keeping_state below all met) root c s known questions) (paths : HasBytePaths c) where
  abbrev p : PoolState
  p = keeping_state below all met

  pub low_stops : SeesLowObject (pairs_of s) → (e : FetchFault) → e ≡ Damaged (record { 0 = root.id.0 }) (Range 0)
      → StopsWriting p root c e
  low_stops low e is = inl (inl (stops_at_object p root c (pairs_of s) e (seen_in p root c s known questions h) low is))

  lawful : AreLawfulSeen c (pairs_of s)
  lawful = found_lawful below all met answered known (pairs_of s) h.found c

  pub has_edits : ChangesLawfulKeys → HaveObjectNumbers (pairs_of s) → (e : HeldEdits)
      → edits_of e ≡ edits_on c (pairs_of s) → HasEdits p root c s known questions e
  has_edits law numbers e is =
      let objects : AreObjectsSeen c (pairs_of s) =
      objects_seen c (pairs_of s) (found_inside (met_cells p) known (pairs_of s) h.found) numbers in
      let sizes : HaveSizes c (pairs_of s) = λ o a object asked at. (objects o a object asked at).2 in
      record {
        all_seen = h;
        edits = is;
        suits = suits below all met answered root c s known questions h paths e is;
        keeps = λ t. keeps_file_size c (pairs_of s) t paths h.found.rises lawful sizes;
        lies = λ t. lies_in_body c (pairs_of s) t paths lawful sizes;
        keys = law c (pairs_of s) paths lawful objects;
        asks = λ t sized. command_asks c (pairs_of s) t paths h.found.rises lawful sized;
      }

-- ---- the body

module _ (p : PoolState) (root : Root) (c : Command) (s : Seen) (known questions : Intervals) (e : HeldEdits)
    (h : HasEdits p root c s known questions e) (change : Option Body)
    (is : change ≡ option_map (body_of (edits_of e) (pairs_of s) false) (body_key (changed (edits_of e)))) where
  its_change : change ≡ body_on c (pairs_of s) false
  its_change = is ∙ ap (λ (f : Edits). option_map (body_of f (pairs_of s) false) (body_key (changed f))) h.edits

  pub long_stops : IsTooLong change → (f : FetchFault) → f ≡ Damaged (record { 0 = root.id.0 }) (Range 0)
      → StopsWriting p root c f
  long_stops long f fault = inl (inr (record {
    seen = pairs_of s;
    in_extents = false;
    saw = seen_in p root c s known questions h.all_seen;
    body = subst IsTooLong its_change long;
    fault = fault;
  }))

  module _ (short : IsTooLong change → ⊥) where
    sizes : HasFileSizes (body_on c (pairs_of s) false)
    sizes = has_sizes (body_on c (pairs_of s) false) (λ long. short (subst IsTooLong (sym its_change) long))
        (h.keeps false)

    pub may_show : MayBeShown change
    may_show = subst MayBeShown (sym its_change)
        (shown_lawful (body_on c (pairs_of s) false) (changed (edits_on c (pairs_of s))) h.keys sizes (h.lies false))

    -- with where it stood
    module _ (q : PoolState) (seen : IsAllSeen q root c s known questions) (b : Option Body) (at : IsStood q change b)
      where
        both : (b ≡ option_map (body_of (edits_of e) (pairs_of s) (stood b)) (body_key (changed (edits_of e)))) × IsTold q b
        both = stood_body (edits_of e) (pairs_of s) (body_key (changed (edits_of e))) q b
            (subst (λ (o : Option Body). IsStood q o b) is at)

        its_body : b ≡ body_on c (pairs_of s) (stood b)
        its_body = both.0
            ∙ ap (λ (f : Edits). option_map (body_of f (pairs_of s) (stood b)) (body_key (changed f))) h.edits

        body_sizes : HasFileSizes (body_on c (pairs_of s) (stood b))
        body_sizes = by (body_key (changed (edits_on c (pairs_of s)))) sizes
          where
            by : (o : Option ℕ) → HasFileSizes (option_map (body_of (edits_on c (pairs_of s)) (pairs_of s) false) o)
                → HasFileSizes (option_map (body_of (edits_on c (pairs_of s)) (pairs_of s) (stood b)) o)
            by None small = tt
            by (Some k) small = small

        pub has_body : HasBody q root c s known questions e b
        has_body = record {
          all_seen = seen;
          edits = h.edits;
          body = its_body;
          told = both.1;
          sizes = subst HasFileSizes (sym its_body) body_sizes;
          asks = subst (λ (o : Option Body). AreExtentEdits o (edits_of e)) (sym its_body)
              (subst (λ (f : Edits). AreExtentEdits (body_on c (pairs_of s) (stood b)) f) (sym h.edits)
              (h.asks (stood b) (is_sized (body_on c (pairs_of s) (stood b)) (changed (edits_on c (pairs_of s))) body_sizes
              (h.lies (stood b)))));
          lawful = λ k on. changes_lawful (body_on c (pairs_of s) (stood b)) (changed (edits_on c (pairs_of s))) h.keys
              body_sizes (h.lies (stood b)) k on;
        }

        pub body_reads : (read : Intervals) → read ≡ kind_reads change → read ≡ kind_reads b
        body_reads read same = same ∙ sym (same_reads change q b at)

-- ---- all of it

abbrev pub planned_of : HeldEdits → Option Body → Intervals → Planned
planned_of e b changes = record { edits = e; body = b; in_extents = stood b; changes = changes }

module _ (p : PoolState) (root : Root) (c : Command) (s : Seen) (known questions : Intervals) (e : HeldEdits)
    (b : Option Body) (changes : Intervals) (h : IsMetFor p root c s known questions e b changes) (met : List CellSeen)
    (at : IsPartMet p root met) where
  kind : (o : Option Body) → IsTold p o → IsKindIn (met_cells p) o
  kind None told = tt
  kind (Some d) (inl none) = inl none
  kind (Some d) (inr (q, goes, told)) = told_is_so q p root met d goes at told

  same_changes : (k : ℕ) → k < top → is_in changes k ≡ is_in (changes_on c (pairs_of s) (stood b)) k
  same_changes k high =
      h.are k high ∙ (λ i. is_in (raw_changes (h.has.body i) (changed (h.has.edits i))) k)

  pub is_touched : IsTouched p root c s known questions (planned_of e b changes)
  is_touched = record {
    planned = record {
      all_seen = h.has.all_seen;
      edits = h.has.edits;
      body = h.has.body;
      sizes = h.has.sizes;
      kind = kind b h.has.told;
      changes = same_changes;
      lawful = h.has.lawful;
    };
    held = h.met.held;
    beside = h.met.beside;
  }

-- the keys that are read are those of the questions, and the one that tells where the body stands
pub are_read : (held questions read : Intervals) (b : Option Body) → read ≡ kind_reads b
    → ((k : ℕ) → least ≤ k → k < top → is_in held k ≡ (is_in questions k || is_in read k))
    → AreReadKeys held questions b
are_read held questions read b is same k low high =
    same k low high ∙ ap (λ (rs : Intervals). is_in questions k || is_in rs k) is
