-- Lines and jobs are read as they are spelled, and only so.
use Rattle.std.proofs.Common.{◌≡◌, ◌⊎◌, inl, inr, ℕ, ◌+◌, ◌<◌, ◌≤◌, Bool, true, false, cond, not, nat_eq, nat_le, List, [], ◌∷◌, ◌++◌, length, take, codes, Option, Some, None, Result, Ok, Err, refl, ap, ◌∙◌, sym, subst, arith, eq-eqb}
use Rattle.std.proofs.lemmas.Bool.{lt-ltb, le-ltb, cases_lt}
use Rattle.std.proofs.lemmas.Bool.Decides.{eqb_tells, leb_tells}
use Rattle.std.proofs.lemmas.List.{take_all}
use Rattle.r4_content.specs.declared.command.Command.{Command}
use Rattle.r4_content.specs.declared.command.Command.TheVariants as commands
use Rattle.r4_script.specs.declared.fault.Spot.{Spot}
use Rattle.r4_script.specs.declared.fault.ScriptFault.{ScriptFault}
use Rattle.r4_script.specs.declared.fault.What.TheVariants as whats
use Rattle.r4_script.specs.declared.job.Job.{Job}
use Rattle.r4_script.specs.declared.word.Verb.{Verb}
use Rattle.r4_script.specs.declared.word.Verb.TheVariants.{Script, Begin, End, Commit}
use Rattle.r4_script.specs.Command.{command_at}
use Rattle.r4_script.specs.Field.{◌>>=◌, at_place, ends_at}
use Rattle.r4_script.specs.Grammar.{Turns, IsSkipped, IsScriptLine, IsCommandLine, IsLine, AreLines, SpellsJob}
use Rattle.r4_script.specs.Progress.{Read, nothing, all_scripts, script_line, turn, command_added, command_line, worded_line, line_read}
use Rattle.r4_script.specs.Split.{until, split}
use Rattle.r4_script.specs.Text.{at_line, cut_off, and_then, lines_read, job_read, text_read, job_of}
use Rattle.r4_script.specs.Word.{verb_of}
use Rattle.r4_script.proofs.CommandLines.{verb_of_command, Behind, command_is, is_plain, command_again}
use Rattle.r4_script.proofs.Fields.{bind_ok, done, ok_is, guard_ok, front_more, front_whole, ends_again, ends_past}
use Rattle.r4_script.proofs.Lines.{first_part}
use Rattle.r4_script.proofs.Words.{word_of, verb_is}

-- ---- transactions

turn_is : (c : Command) (was now : Bool) → turn (verb_of_command c) was ≡ Ok now → Turns c was now
turn_is commands.Begin true now e = absurd cc
turn_is commands.Begin false now e = (refl, sym (ok_is true now e))
turn_is commands.End true now e = (refl, sym (ok_is false now e))
turn_is commands.End false now e = absurd cc
turn_is commands.Commit true now e = absurd cc
turn_is commands.Commit false now e = (refl, sym (ok_is false now e))
turn_is c was now e = ok_is was now e

turn_again : (c : Command) (was now : Bool) → Turns c was now → turn (verb_of_command c) was ≡ Ok now
turn_again commands.Begin was now h = ap (turn Begin) h.0 ∙ ap done (sym h.1)
turn_again commands.End was now h = ap (turn End) h.0 ∙ ap done (sym h.1)
turn_again commands.Commit was now h = ap (turn Commit) h.0 ∙ ap done (sym h.1)
turn_again c was now h = ap done h

-- ---- a line is spelled

behind : (v : Verb) (line : List ℕ) → verb_of (until 32 line) ≡ Some v → Behind line (length (until 32 line) + 1) (word_of v)
behind v line w =
    let word = verb_is (until 32 line) v w in
    record { more = λ rest h. front_more line rest h ∙ ap (λ (l : List ℕ). l ++ (32 ∷ rest)) word; none = λ h. front_whole line h ∙ word }

script_is : (r q : Read) (line : List ℕ) → verb_of (until 32 line) ≡ Some Script → script_line r line (length (until 32 line) + 1) ≡ Ok q → IsScriptLine r line q
unfolding script_line
script_is r q line w e =
    let g = guard_ok (nat_le 64 (length (all_scripts r))) _ (ends_at line (length (until 32 line) + 1) >>= λ _. done (record { scripts = all_scripts r; current = Some []; inside = false })) q e in
    let b = bind_ok (ends_at line (length (until 32 line) + 1)) (λ _. done (record { scripts = all_scripts r; current = Some []; inside = false })) q g.1 in
    record { word = (behind Script line w).none (ends_past line (length (until 32 line) + 1) b.0 b.1); few = few (length (all_scripts r)) g.0; begins = sym (ok_is (record { scripts = all_scripts r; current = Some []; inside = false }) q b.2) }
  where
    few : (n : ℕ) → nat_le 64 n ≡ false → n < 64
    few n e = elim (leb_tells 64 n) [ inl p ↦ absurd (cc (p.0, e)) | inr p ↦ p.1 ]

added_is : (current : Option (List Command)) (r q : Read) (v : Verb) (line : List ℕ) → r.current ≡ current → verb_of (until 32 line) ≡ Some v
    → command_added current r.scripts r.inside v line (length (until 32 line) + 1) ≡ Ok q → IsCommandLine r line q
added_is None r q v line is w e = absurd cc
added_is (Some cs) r q v line is w e =
    let i = length (until 32 line) + 1 in
    let b = bind_ok (turn v r.inside) (λ (now : Bool). command_at v line i >>= λ (c : Command). done (record { scripts = r.scripts; current = Some (cs ++ c ∷ []); inside = now })) q e in
    let c = bind_ok (command_at v line i) (λ (c : Command). done (record { scripts = r.scripts; current = Some (cs ++ c ∷ []); inside = b.0 })) q b.2 in
    let same = ok_is (record { scripts = r.scripts; current = Some (cs ++ c.0 ∷ []); inside = b.0 }) q c.2 in
    let told = command_is v line i c.0 (behind v line w) c.1 in
    let now : b.0 ≡ q.inside = ap (λ (q : Read). q.inside) same in
    record {
      commands = cs;
      command = c.0;
      in_script = is;
      spells = told.0;
      turns = subst (λ (n : Bool). Turns c.0 r.inside n) now (turn_is c.0 r.inside b.0 (ap (λ (v : Verb). turn v r.inside) told.1 ∙ b.1));
      adds = sym same ∙ ap (λ (n : Bool). record { scripts = r.scripts; current = Some (cs ++ c.0 ∷ []); inside = n }) now;
    }

command_line_is : (r q : Read) (v : Verb) (line : List ℕ) → verb_of (until 32 line) ≡ Some v → command_line r v line (length (until 32 line) + 1) ≡ Ok q → IsCommandLine r line q
unfolding command_line
command_line_is r q v line w e = added_is r.current r q v line refl w e

worded_is : (o : Option Verb) (r q : Read) (line : List ℕ) → verb_of (until 32 line) ≡ o → worded_line o r line (length (until 32 line) + 1) ≡ Ok q → IsScriptLine r line q ⊎ IsCommandLine r line q
worded_is None r q line w e = absurd cc
worded_is (Some Script) r q line w e = inl (script_is r q line w e)
worded_is (Some v) r q line w e = inr (command_line_is r q v line w e)

line_is : (r q : Read) (line : List ℕ) → line_read r line ≡ Ok q → IsLine r line q
unfolding line_read
line_is r q [] e = inl (tt, ok_is r q e)
line_is r q (b ∷ bytes) e = elim (eqb_tells b 35) [
  | inl p ↦ inl (p.1, ok_is r q (sym (ap (λ (v : Bool). cond v (done r) (worded_line (verb_of (until 32 (b ∷ bytes))) r (b ∷ bytes) (length (until 32 (b ∷ bytes)) + 1))) p.0) ∙ e))
  | inr p ↦ inr (worded_is (verb_of (until 32 (b ∷ bytes))) r q (b ∷ bytes) refl
      (sym (ap (λ (v : Bool). cond v (done r) (worded_line (verb_of (until 32 (b ∷ bytes))) r (b ∷ bytes) (length (until 32 (b ∷ bytes)) + 1))) p.0) ∙ e))
]

-- ---- a line is read

plain_read : (r : Read) (line : List ℕ) → is_plain line ≡ true → line_read r line ≡ worded_line (verb_of (until 32 line)) r line (length (until 32 line) + 1)
unfolding line_read
plain_read r [] e = absurd cc
plain_read r (b ∷ bytes) e = ap (λ (v : Bool). cond v (done r) (worded_line (verb_of (until 32 (b ∷ bytes))) r (b ∷ bytes) (length (until 32 (b ∷ bytes)) + 1))) (not_true (nat_eq b 35) e)
  where
    not_true : (v : Bool) → not v ≡ true → v ≡ false
    not_true true e = cc
    not_true false e = refl

skipped_again : (r : Read) (line : List ℕ) → IsSkipped line → line_read r line ≡ Ok r
unfolding line_read
skipped_again r [] h = refl
skipped_again r (b ∷ bytes) h = ap (λ (v : Bool). cond v (done r) (worded_line (verb_of (until 32 (b ∷ bytes))) r (b ∷ bytes) (length (until 32 (b ∷ bytes)) + 1))) (eq-eqb b 35 h)

script_again : (r : Read) → length (all_scripts r) < 64 → script_line r (codes "script") 7 ≡ Ok (record { scripts = all_scripts r; current = Some []; inside = false })
unfolding script_line
script_again r few =
    ap (λ (v : Bool). cond v (at_place 0 whats.Scripts) (ends_at (codes "script") 7 >>= λ _. done (record { scripts = all_scripts r; current = Some []; inside = false }))) (more (length (all_scripts r)) few)
    ∙ ap (λ (x : Result (Unit {0}) Spot). x >>= λ _. done (record { scripts = all_scripts r; current = Some []; inside = false })) (ends_again (codes "script") 7 refl)
  where
    more : (n : ℕ) → n < 64 → nat_le 64 n ≡ false
    more n h = elim (leb_tells 64 n) [ inl p ↦ absurd (omega (arith, p.1)) | inr p ↦ p.0 ]

worded_command : (c : Command) (r : Read) (line : List ℕ) (i : ℕ) → worded_line (Some (verb_of_command c)) r line i ≡ command_line r (verb_of_command c) line i
worded_command commands.Begin r line i = refl
worded_command c r line i = refl

command_line_again : (r q : Read) (line : List ℕ) (i : ℕ) (h : IsCommandLine r line q) → command_at (verb_of_command h.command) line i ≡ Ok h.command → command_line r (verb_of_command h.command) line i ≡ Ok q
unfolding command_line
command_line_again r q line i h read =
    ap (λ (o : Option (List Command)). command_added o r.scripts r.inside (verb_of_command h.command) line i) h.in_script
    ∙ ap (λ (x : Result Bool Spot). x >>= λ (now : Bool). command_at (verb_of_command h.command) line i >>= λ (c : Command). done (record { scripts = r.scripts; current = Some (h.commands ++ c ∷ []); inside = now })) (turn_again h.command r.inside q.inside h.turns)
    ∙ ap (λ (x : Result Command Spot). x >>= λ (c : Command). done (record { scripts = r.scripts; current = Some (h.commands ++ c ∷ []); inside = q.inside })) read
    ∙ ap done (sym h.adds)

line_again : (r q : Read) (line : List ℕ) → IsLine r line q → line_read r line ≡ Ok q
line_again r q line (inl h) = skipped_again r line h.0 ∙ ap done h.1
line_again r q line (inr (inl h)) = ap (line_read r) h.word ∙ plain_read r (codes "script") refl ∙ script_again r h.few ∙ ap done (sym h.begins)
line_again r q line (inr (inr h)) =
    let s = command_again h.command line h.spells in
    plain_read r line s.plain ∙ ap (λ (o : Option Verb). worded_line o r line (length (until 32 line) + 1)) s.word
    ∙ worded_command h.command r line (length (until 32 line) + 1) ∙ command_line_again r q line (length (until 32 line) + 1) h s.read

-- ---- lines

ok_line : (n : ℕ) (x : Result Read Spot) (q : Read) → at_line n x ≡ Ok q → x ≡ Ok q
ok_line n (Ok r) q e = ap done (ok_same r q e)
  where
    ok_same : (r q : Read) → at_line n (done r) ≡ Ok q → r ≡ q
    ok_same r q e = cc
ok_line n (Err spot) q e = absurd cc

then_ok : (x : Result Read ScriptFault) (more : Read → Result Read ScriptFault) (q : Read) → and_then x more ≡ Ok q → (r : Read) × (x ≡ Ok r) × (more r ≡ Ok q)
then_ok (Ok r) more q e = (r, refl, e)
then_ok (Err fault) more q e = absurd cc

lines_are : (n : ℕ) (r q : Read) (lines : List (List ℕ)) → lines_read false n r lines ≡ Ok q → AreLines r lines q
lines_are n r q [] e = cc
lines_are n r q (line ∷ []) e = (q, (line_is r q line (ok_line n (line_read r line) q e), refl))
lines_are n r q (line ∷ next ∷ lines) e =
    let b = then_ok (at_line n (line_read r line)) (λ (r : Read). lines_read false (n + 1) r (next ∷ lines)) q e in
    (b.0, (line_is r b.0 line (ok_line n (line_read r line) b.0 b.1), lines_are (n + 1) b.0 q (next ∷ lines) b.2))

lines_again : (n : ℕ) (r q : Read) (lines : List (List ℕ)) → AreLines r lines q → lines_read false n r lines ≡ Ok q
lines_again n r q [] h = ap (λ (r : Read). lines_read false n r []) h
lines_again n r q (line ∷ []) h = ap (at_line n) (line_again r h.0 line h.1.0 ∙ ap done h.1.1)
lines_again n r q (line ∷ next ∷ lines) h =
    ap (λ (x : Result Read Spot). and_then (at_line n x) (λ (r : Read). lines_read false (n + 1) r (next ∷ lines))) (line_again r h.0 line h.1.0)
    ∙ lines_again (n + 1) h.0 q (next ∷ lines) h.1.1

-- a text that is too long is none
cut_fails : (n : ℕ) (line : List ℕ) (x : Result Read Spot) (q : Read) → at_line n (cut_off line x) ≡ Ok q → ⊥
cut_fails n line (Ok r) q e = cc
cut_fails n line (Err spot) q e = go (nat_le spot.column (length line)) e
  where
    go : (v : Bool) → at_line n (cond v (Err spot) (at_place (length line) whats.Long)) ≡ Ok q → ⊥
    go true e = cc
    go false e = cc

long_fails : (n : ℕ) (r q : Read) (line : List ℕ) (lines : List (List ℕ)) → lines_read true n r (line ∷ lines) ≡ Ok q → ⊥
long_fails n r q line [] e = cut_fails n line (line_read r line) q e
long_fails n r q line (next ∷ lines) e =
    let b = then_ok (at_line n (line_read r line)) (λ (r : Read). lines_read true (n + 1) r (next ∷ lines)) q e in
    long_fails (n + 1) b.0 q next lines b.2

-- ---- texts

text_is : (most : ℕ) (text : List ℕ) (q : Read) → text_read most text ≡ Ok q → (length text ≤ most) × AreLines nothing (split 10 text) q
unfolding text_read
text_is most text q e = elim (cases_lt most (length text)) [
  | inl lt ↦
      let f = first_part 10 (take most text) in
      absurd (long_fails 1 nothing q f.0 f.1.0 (sym (ap (λ (v : Bool). lines_read v 1 nothing (split 10 (take most text))) (lt-ltb most (length text) lt) ∙ ap (lines_read true 1 nothing) f.1.1) ∙ e))
  | inr le ↦ (
    le,
    lines_are 1 nothing q (split 10 text)
        (sym (ap (λ (v : Bool). lines_read v 1 nothing (split 10 (take most text))) (le-ltb most (length text) le) ∙ ap (λ (l : List ℕ). lines_read false 1 nothing (split 10 l)) (take_all most text le)) ∙ e),
  )
]

text_again : (most : ℕ) (text : List ℕ) (q : Read) → length text ≤ most → AreLines nothing (split 10 text) q → text_read most text ≡ Ok q
unfolding text_read
text_again most text q le h =
    ap (λ (v : Bool). lines_read v 1 nothing (split 10 (take most text))) (le-ltb most (length text) le) ∙ ap (λ (l : List ℕ). lines_read false 1 nothing (split 10 l)) (take_all most text le)
    ∙ lines_again 1 nothing q (split 10 text) h

abbrev accepted : Job → Result Job ScriptFault
accepted j = Ok j

pub job_is : (text : List ℕ) (job : Job) → job_of text ≡ Ok job → SpellsJob text job
unfolding job_of
job_is text job e =
    let b = read_ok (text_read 16777216 text) e in
    let t = text_is 16777216 text b.0 b.1 in
    record { short = t.0; all = b.0; lines = t.1; scripts = b.2 }
  where
    read_ok : (x : Result Read ScriptFault) → job_read x ≡ Ok job → (q : Read) × (x ≡ Ok q) × (job ≡ record { scripts = all_scripts q })
    read_ok (Ok q) e = (q, refl, cc)
    read_ok (Err fault) e = absurd cc

pub job_again : (text : List ℕ) (job : Job) → SpellsJob text job → job_of text ≡ Ok job
unfolding job_of
job_again text job h = ap job_read (text_again 16777216 text h.all h.short h.lines) ∙ ap accepted (sym h.scripts)
