-- What was read so far of a source.
use Rattle.std.proofs.Common.{◌≡◌, ◌⊎◌, ℕ, ◌+◌, ◌-◌, ◌<◌, ◌≤◌, List, [], ◌++◌, length, take, drop}
use Rattle.std.proofs.Common.{refl, sym, ap, subst, ◌∙◌, inl, inr, arith, take-add, drop-drop}
use Rattle.std.proofs.lemmas.List.{drop_all, length-drop, length-take, take_all}
use Rattle.std.specs.Global.{Vec}
use Rattle.std.specs.Prelude.{◌↔◌, IsSome, Ok, Err, Result, Some, min, vec_len}
use Rattle.std.specs.Result.{IsErrAnd}
use Rattle.r4_outside.specs.Source.{SourceState}
use Rattle.r4_script.specs.Text.{job_of}
use Rattle.r4_source.specs.Reading.{AddsPiece, HasCause, IsStart, Reads, most}
use Rattle.r4_source.specs.declared.reading.ReadFault.{ReadFault}
use Rattle.r4_source.specs.declared.reading.ReadFault.TheVariants.{Memory, Source}
use Rattle.r4_source.proofs.Cut.{job_alike}

-- The text is what was read so far.
pub record HasRead (old : SourceState) (text : List ℕ) (now : SourceState) : Type 0 where
  pub told : IsSome now.rest ↔ IsSome old.rest
  pub faults : old.faults ≤ now.faults
  pub few : length text ≤ most
  pub start : (rest : List ℕ) → old.rest ≡ Some rest → IsStart (length text) rest text now.rest

-- Nothing more is to be read: the text is full, or the source is at its end.
abbrev pub IsAtEnd : SourceState → List ℕ → Type 0
IsAtEnd old text =
    (most ≤ length text) ⊎ ((rest : List ℕ) → old.rest ≡ Some rest → length rest ≤ length text)

-- nothing yet
pub nothing_read : (s : SourceState) (text : List ℕ) → text ≡ [] → HasRead s text s
nothing_read s text none = subst (λ (l : List ℕ). HasRead s l s) (sym none) (record {
  told = (λ t. t, λ t. t);
  faults = omega arith;
  few = omega arith;
  start = λ rest is. record { bytes = refl; left = is };
})

-- a piece more
pub more_read : (old mid new : SourceState) (text longer : List ℕ) (room n : ℕ) → HasRead old text mid
    → room + length text ≤ most → AddsPiece room text mid (Ok n) longer new → HasRead old longer new
more_read old mid new text longer room n f within g =
    let x = f.faults in
    let y = g.faults in
    let fits = g.fits in
    let long = g.longer in
    record {
      told = (λ t. f.told.0 (g.told.0 t), λ t. g.told.1 (f.told.1 t));
      faults = omega (arith, x, y);
      few = omega (arith, fits, long, within);
      start = λ rest is.
          let p = f.start rest is in
          let q = g.took (drop (length text) rest) p.left in
          record {
            bytes = q.bytes ∙ ap (λ (l : List ℕ). l ++ take n (drop (length text) rest)) p.bytes
                ∙ sym (take-add (length text) n rest) ∙ ap (λ (k : ℕ). take k rest) (sym long);
            left = q.left ∙ ap (λ (l : List ℕ). Some l)
                (drop-drop n (length text) rest ∙ ap (λ (k : ℕ). drop k rest) (sym long));
          };
    }

-- a piece of nothing
pub end_read : (old mid new : SourceState) (text longer : List ℕ) (room : ℕ) → HasRead old text mid
    → 0 < room → AddsPiece room text mid (Ok 0) longer new
    → (rest : List ℕ) → old.rest ≡ Some rest → length rest ≤ length longer
end_read old mid new text longer room f some g rest is =
    let p = f.start rest is in
    let q = g.took (drop (length text) rest) p.left in
    let long = g.longer in
    elim (q.stops refl) [
      | inl none ↦ absurd (omega (arith, none, some))
      | inr none ↦ omega (arith, none, long, length-drop (length text) rest)
    ]

-- the start that is read at the end
pub whole_read : (old now : SourceState) (text : List ℕ) → HasRead old text now → IsAtEnd old text
    → (rest : List ℕ) → old.rest ≡ Some rest → IsStart most rest text now.rest
whole_read old now text f (inl full) rest is =
    let few = f.few in
    let long : length text ≡ most = omega (arith, few, full) in
    subst (λ (k : ℕ). IsStart k rest text now.rest) long (f.start rest is)
whole_read old now text f (inr ends) rest is =
    let few = f.few in
    let short = ends rest is in
    let p = f.start rest is in
    record {
      bytes = p.bytes ∙ take_all (length text) rest short ∙ sym (take_all most rest (omega (arith, few, short)));
      left = p.left ∙ ap (λ (l : List ℕ). Some l)
          (drop_all (length text) rest short ∙ sym (drop_all most rest (omega (arith, few, short))));
    }

pub reads_all : (old now : SourceState) (v : Vec ℕ) → HasRead old v.items now → IsAtEnd old v.items
    → Reads old (Ok v) now
reads_all old now v f ends = record {
  told = f.told;
  faults = f.faults;
  cause = tt;
  few = let few = f.few in omega (arith, few, v.ok.0);
  whole = λ rest is. whole_read old now v.items f ends rest is;
  job = λ rest is. ap job_of (whole_read old now v.items f ends rest is).bytes ∙ job_alike rest;
}

-- the cause is one from an earlier count on
caused : (a b c : SourceState) (e : ReadFault) → a.faults ≤ b.faults → HasCause b c e → HasCause a c e
caused a b c (Source n) le has = (has.0, let rose = has.1 in omega (arith, le, rose))
caused a b c Memory le has = tt

-- an error that is handed on
handed_on : (a b : SourceState) (e : ReadFault) (r : Result (Vec ℕ) ReadFault) → IsErrAnd r (λ y. y ≡ e)
    → Reads a (Err e) b → Reads a r b
handed_on a b e (Ok v) is f = absurd is
handed_on a b e (Err y) is f = subst (λ (x : ReadFault). Reads a (Err x) b) (sym is) f

-- nothing is read for want of memory
pub none_read : (s : SourceState) (r : Result (Vec ℕ) ReadFault) → IsErrAnd r (λ y. y ≡ Memory) → Reads s r s
none_read s r is = handed_on s s Memory r is (record {
  told = (λ t. t, λ t. t);
  faults = omega arith;
  cause = tt;
  few = tt;
  whole = λ rest is. tt;
  job = λ rest is. tt;
})

-- a piece that fails
pub read_stopped : (old mid new : SourceState) (text longer : List ℕ) (room : ℕ) (e : ReadFault)
    (r : Result (Vec ℕ) ReadFault) → HasRead old text mid → AddsPiece room text mid (Err e) longer new
    → IsErrAnd r (λ y. y ≡ e) → Reads old r new
read_stopped old mid new text longer room e r f g is =
    let x = f.faults in
    let y = g.faults in
    handed_on old new e r is (record {
      told = (λ t. f.told.0 (g.told.0 t), λ t. g.told.1 (f.told.1 t));
      faults = omega (arith, x, y);
      cause = caused old mid new e x g.cause;
      few = tt;
      whole = λ rest is. tt;
      job = λ rest is. tt;
    })

-- the same text of the same source
reads_so : (old a b : SourceState) (v w : Vec ℕ) → v ≡ w → a ≡ b → Reads old (Ok w) b → Reads old (Ok v) a
reads_so old a b v w is at f =
    subst (λ (x : SourceState). Reads old (Ok v) x) (sym at)
    (subst (λ (x : Vec ℕ). Reads old (Ok x) b) (sym is) f)

-- the text is full
pub full_read : (old a b : SourceState) (v w : Vec ℕ) → v ≡ w → a ≡ b → HasRead old w.items b
    → most ≤ vec_len w → Reads old (Ok v) a
full_read old a b v w is at f full =
    reads_so old a b v w is at (reads_all old b w f (inl (omega (arith, full, w.ok.0))))

-- A text that is not full, and a piece that is read into its room.
module _ (old mid : SourceState) (text : Vec ℕ) (f : HasRead old text.items mid) (xs : List ℕ) (room end : ℕ)
    (long : length xs ≡ 65536) (is : room ≡ min 65536 (end - vec_len text)) (less : vec_len text < end)
    (most_is : end ≤ most) where
  some_room : 0 < length (take room xs)
  some_room = omega (arith, length-take room xs, long, less, is)

  room_within : length (take room xs) + length text.items ≤ most
  room_within = omega (arith, length-take room xs, long, less, is, most_is, text.ok.0)

  pub next_piece : (new : SourceState) (longer : List ℕ) (got : ℕ)
      → AddsPiece (length (take room xs)) text.items mid (Ok got) longer new → HasRead old longer new
  next_piece new longer got g =
      more_read old mid new text.items longer (length (take room xs)) got f room_within g

  pub last_piece : (a b : SourceState) (v w : Vec ℕ) (got : ℕ) → v ≡ w → a ≡ b → got ≡ 0
      → AddsPiece (length (take room xs)) text.items mid (Ok got) w.items b → Reads old (Ok v) a
  last_piece a b v w got same at none g =
      reads_so old a b v w same at
      (reads_all old b w (next_piece b w.items got g)
      (inr (end_read old mid b text.items w.items (length (take room xs)) f some_room
      (subst (λ (k : ℕ). AddsPiece (length (take room xs)) text.items mid (Ok k) w.items b) none g))))
