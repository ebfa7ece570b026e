-- Lines one after the other.
use Rattle.std.proofs.Common.{◌≡◌, ℕ, ◌+◌, ◌≤◌, ◌<◌, Bool, true, false, cond, nat_eq, List, [], ◌∷◌, length, take, drop, refl, ap, ◌∙◌, sym, subst, arith, length-drop, add_assoc, Result, Ok, Err}
use Rattle.std.proofs.lemmas.Bool.{lt-ltb, le-ltb}
use Rattle.std.proofs.lemmas.List.{drop-drop, take_all}
use Rattle.r4_script.specs.declared.fault.Spot.{Spot}
use Rattle.r4_script.specs.declared.fault.ScriptFault.{ScriptFault}
use Rattle.r4_script.specs.declared.fault.ParseFault.{ParseFault}
use Rattle.r4_script.specs.declared.fault.ParseFault.TheVariants as faults
use Rattle.r4_script.specs.declared.fault.Stop.{Stop}
use Rattle.r4_script.specs.declared.fault.Stop.TheVariants as stops
use Rattle.r4_script.specs.Field.{Gives}
use Rattle.r4_script.specs.Progress.{Read, nothing, line_read}
use Rattle.r4_script.specs.Split.{until, onto_first, split}
use Rattle.r4_script.specs.Text.{at_line, last_read, and_then, lines_read, text_read, named, Answers}
use Rattle.r4_script.proofs.Splits.{split_last, split_more}

-- there is a first part
pub first_part : (s : ℕ) (xs : List ℕ) → (y : List ℕ) × ((ys : List (List ℕ)) × (split s xs ≡ y ∷ ys))
first_part s [] = ([], ([], refl))
first_part s (b ∷ bs) = elim (nat_eq b s) as (λ v. (y : List ℕ) × ((ys : List (List ℕ)) × (cond v ([] ∷ split s bs) (onto_first b (split s bs)) ≡ y ∷ ys)))
    [ true ↦ ([], (split s bs, refl)) | false ↦ let p = first_part s bs in (b ∷ p.0, (p.1.0, ap (onto_first b) p.1.1)) ]

-- a line's answer with its number
pub named_gives : (n : ℕ) (got : Result Read Stop) (read : Result Read Spot) → Gives (λ r. r) got read → Answers (named n got) (at_line n read)
named_gives n (Ok r) read is = ap (at_line n) is
named_gives n (Err stops.Memory) read is = tt
named_gives n (Err (stops.Spot spot)) read is = ap (at_line n) is

-- the same answer to the same reading
pub same_answer : (a b : Result Read ParseFault) (x y : Result Read ScriptFault) → a ≡ b → x ≡ y → Answers a x → Answers b y
same_answer a b x y e f is = subst (λ (r : Result Read ParseFault). Answers r y) e (subst (λ (r : Result Read ScriptFault). Answers a r) f is)

pub lines_last : (long : Bool) (n : ℕ) (r : Read) (xs : List ℕ) → length xs ≤ length (until 10 xs) → lines_read long n r (split 10 xs) ≡ at_line n (last_read long r (until 10 xs))
lines_last long n r xs h = ap (lines_read long n r) (split_last 10 xs h)

pub lines_more : (long : Bool) (n : ℕ) (r : Read) (xs : List ℕ) → length (until 10 xs) < length xs
    → lines_read long n r (split 10 xs) ≡ and_then (at_line n (line_read r (until 10 xs))) (λ q. lines_read long (n + 1) q (split 10 (drop (length (until 10 xs) + 1) xs)))
lines_more long n r xs h =
    let p = first_part 10 (drop (length (until 10 xs) + 1) xs) in
    ap (lines_read long n r) (split_more 10 xs h ∙ ap (λ (l : List (List ℕ)). until 10 xs ∷ l) p.1.1)
    ∙ ap (λ (l : List (List ℕ)). and_then (at_line n (line_read r (until 10 xs))) (λ q. lines_read long (n + 1) q l)) (sym p.1.1)

-- the last line
pub reads_last : (long : Bool) (n place : ℕ) (r : Read) (text line : List ℕ) (whole : Result Read ScriptFault) (got : Result Read Stop) (result : Result Read ParseFault)
    → place ≤ length text → line ≡ until 10 (drop place text) → place + length line ≡ length text → lines_read long n r (split 10 (drop place text)) ≡ whole
    → Gives (λ r. r) got (last_read long r line) → result ≡ named n got → Answers result whole
reads_last long n place r text line whole got result h is e all gives names =
    let short : length (drop place text) ≤ length (until 10 (drop place text)) = simp length-drop (omega (arith, ap length is)) in
    same_answer (named n got) result (at_line n (last_read long r line)) whole (sym names)
    (ap (λ (l : List ℕ). at_line n (last_read long r l)) is ∙ sym (lines_last long n r (drop place text) short) ∙ all)
    (named_gives n got _ gives)

-- a line that others follow
pub rest_is : (long : Bool) (n place : ℕ) (r : Read) (text line : List ℕ) (whole : Result Read ScriptFault)
    → line ≡ until 10 (drop place text) → place + length line < length text → lines_read long n r (split 10 (drop place text)) ≡ whole
    → and_then (at_line n (line_read r line)) (λ q. lines_read long (n + 1) q (split 10 (drop (place + length line + 1) text))) ≡ whole
rest_is long n place r text line whole is below all =
    let short : length (until 10 (drop place text)) < length (drop place text) = simp length-drop (omega (arith, ap length is)) in
    let further : drop (place + length line + 1) text ≡ drop (length (until 10 (drop place text)) + 1) (drop place text) =
    ap (λ (n : ℕ). drop n text) (add_assoc place (length line) 1) ∙ sym (drop-drop (length line + 1) place text)
    ∙ ap (λ (l : List ℕ). drop (length l + 1) (drop place text)) is in
    ap (λ (l : List ℕ). and_then (at_line n (line_read r l)) (λ q. lines_read long (n + 1) q (split 10 (drop (place + length line + 1) text)))) is
    ∙ ap (λ (l : List ℕ). and_then (at_line n (line_read r (until 10 (drop place text)))) (λ q. lines_read long (n + 1) q (split 10 l))) further
    ∙ sym (lines_more long n r (drop place text) short) ∙ all

-- a line that is read
pub reads_line : (long : Bool) (n place : ℕ) (r q : Read) (text line : List ℕ) (whole : Result Read ScriptFault) (got : Result Read Stop)
    → line ≡ until 10 (drop place text) → place + length line < length text → lines_read long n r (split 10 (drop place text)) ≡ whole
    → Gives (λ r. r) got (line_read r line) → Ok q ≡ named n got → lines_read long (n + 1) q (split 10 (drop (place + length line + 1) text)) ≡ whole
reads_line long n place r q text line whole got is below all gives names =
    let read : at_line n (line_read r line) ≡ Ok q = subst (λ (a : Result Read ParseFault). Answers a (at_line n (line_read r line))) (sym names) (named_gives n got _ gives) in
    ap (λ (a : Result Read ScriptFault). and_then a (λ q. lines_read long (n + 1) q (split 10 (drop (place + length line + 1) text)))) (sym read)
    ∙ rest_is long n place r text line whole is below all

-- what stops a line stops those behind it
pub stop_stays : (e : ParseFault) (read : Result Read ScriptFault) (more : Read → Result Read ScriptFault) → Answers {X = Read} (Err e) read → Answers {X = Read} (Err e) (and_then read more)
stop_stays faults.Memory read more is = tt
stop_stays (faults.Script f) read more is = ap (λ (a : Result Read ScriptFault). and_then a more) is

-- a line that is none
pub reads_fault : (long : Bool) (n place : ℕ) (r : Read) (e : ParseFault) (text line : List ℕ) (whole : Result Read ScriptFault) (got : Result Read Stop) (result : Result Read ParseFault)
    → line ≡ until 10 (drop place text) → place + length line < length text → lines_read long n r (split 10 (drop place text)) ≡ whole
    → Gives (λ r. r) got (line_read r line) → Err e ≡ named n got → result ≡ Err e → Answers result whole
reads_fault long n place r e text line whole got result is below all gives names ends =
    same_answer (Err e) result (and_then (at_line n (line_read r line)) (λ q. lines_read long (n + 1) q (split 10 (drop (place + length line + 1) text)))) whole (sym ends)
    (rest_is long n place r text line whole is below all)
    (stop_stays e _ _ (subst (λ (a : Result Read ParseFault). Answers a (at_line n (line_read r line))) (sym names) (named_gives n got _ gives)))

-- a text that is cut off
pub text_cut : (most : ℕ) (text : List ℕ) → most < length text → lines_read true 1 nothing (split 10 (take most text)) ≡ text_read most text
unfolding text_read
text_cut most text h = ap (λ (b : Bool). lines_read b 1 nothing (split 10 (take most text))) (sym (lt-ltb most (length text) h))

-- a text that is not
pub text_whole : (most : ℕ) (text : List ℕ) → length text ≤ most → lines_read false 1 nothing (split 10 text) ≡ text_read most text
unfolding text_read
text_whole most text h =
    ap (λ (l : List ℕ). lines_read false 1 nothing (split 10 l)) (sym (take_all most text h))
    ∙ ap (λ (b : Bool). lines_read b 1 nothing (split 10 (take most text))) (sym (le-ltb most (length text) h))
