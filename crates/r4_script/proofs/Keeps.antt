-- A job that is read keeps the rules.
use Rattle.std.proofs.Common.{◌≡◌, inl, inr, ℕ, ◌<◌, ◌≤◌, Bool, true, false, cond, not, ◌&&◌, nat_eq, List, [], ◌∷◌, ◌++◌, length, codes, Option, Some, None, Result, Ok, Err, IfOk, refl, ap, ◌∙◌, sym, subst, arith}
use Rattle.std.specs.List.{AllByRecursion}
use Rattle.std.proofs.lemmas.Bool.Decides.{eqb_tells}
use Rattle.std.proofs.lemmas.List.{length-append}
use Rattle.std.proofs.lemmas.Bool.{and_parts}
use Rattle.r4_content.specs.declared.command.Command.{Command}
use Rattle.r4_content.specs.declared.command.Command.TheVariants as commands
use Rattle.r4_script.specs.declared.fault.ParseFault.{ParseFault}
use Rattle.r4_script.specs.declared.job.Job.{Job}
use Rattle.r4_script.specs.declared.job.Script.{Script}
use Rattle.r4_script.specs.Grammar.{IsPath, joined, Spells, Turns, IsCommandLine, IsLine, AreLines}
use Rattle.r4_script.specs.Progress.{Read, nothing, and_current, all_scripts}
use Rattle.r4_script.specs.Spelling.{is_one_line, AreNames, IsCommand, AreInOrder, IsScript, AreScripts}
use Rattle.r4_script.specs.Split.{onto_first, split}
use Rattle.r4_script.specs.Text.{job_of, Answers}
use Rattle.r4_script.proofs.Jobs.{job_is}

-- ---- a command

names_are : (a : List ℕ) (p : List (List ℕ)) → IsPath a p → AreNames p
names_are a [] h = record { bytes = tt; some = λ same. absurd (cc) }
names_are a (name ∷ names) h = record { bytes = h.1; some = h.2 }

one_tail : (a b : List ℕ) → is_one_line (a ++ b) ≡ true → is_one_line b ≡ true
one_tail [] b h = h
one_tail (x ∷ a) b h = one_tail a b (and_parts (not (nat_eq x 10)) (is_one_line (a ++ b)) h).1

command_keeps : (c : Command) (line : List ℕ) → is_one_line line ≡ true → Spells line c → IsCommand c
command_keeps commands.Begin line o h = tt
command_keeps commands.End line o h = tt
command_keeps commands.Commit line o h = tt
command_keeps (commands.Create p oid) line o h = (h.0, names_are h.1.0 p h.1.1.0)
command_keeps (commands.Mkdir p oid) line o h = (h.0, names_are h.1.0 p h.1.1.0)
command_keeps (commands.Write p offset text) line o h = (
  names_are h.1.0 p h.1.1.1.0,
  omega (arith, h.1.1.1.1.below),
  h.0,
  one_tail (32 ∷ []) text (one_tail h.1.1.0 (32 ∷ text) (one_tail (32 ∷ []) (joined (h.1.1.0 ∷ text ∷ [])) (one_tail h.1.0 (32 ∷ joined (h.1.1.0 ∷ text ∷ []))
      (one_tail (codes "write ") (joined (h.1.0 ∷ h.1.1.0 ∷ text ∷ [])) (ap is_one_line (sym h.1.1.1.2) ∙ o))))),
)
command_keeps (commands.Fill p offset len byte) line o h = (names_are h.0 p h.1.1.1.1.0, omega (arith, h.1.1.1.1.1.below), h.1.1.1.1.2.below, h.1.1.1.1.3.below)
command_keeps (commands.Truncate p size) line o h = (names_are h.0 p h.1.1.0, omega (arith, h.1.1.1.below))
command_keeps (commands.Read p offset len) line o h = (names_are h.0 p h.1.1.1.0, omega (arith, h.1.1.1.1.below), h.1.1.1.2.below)
command_keeps (commands.Stat p) line o h = names_are h.0 p h.1.0
command_keeps (commands.Names p) line o h = names_are h.0 p h.1.0
command_keeps (commands.Link p q) line o h = (names_are h.0 p h.1.1.0, names_are h.1.0 q h.1.1.1)
command_keeps (commands.Unlink p) line o h = names_are h.0 p h.1.0
command_keeps (commands.Rmdir p) line o h = names_are h.0 p h.1.0
command_keeps (commands.Rename p q) line o h = (names_are h.0 p h.1.1.0, names_are h.1.0 q h.1.1.1)
command_keeps (commands.Chmod p mode) line o h = (names_are h.0 p h.1.1.0, omega (arith, h.1.1.1.below))
command_keeps (commands.Chown p uid gid) line o h = (names_are h.0 p h.1.1.1.0, omega (arith, h.1.1.1.1.below), omega (arith, h.1.1.1.2.below))
command_keeps (commands.Times p atime mtime ctime) line o h = (names_are h.0 p h.1.1.1.1.0, omega (arith, h.1.1.1.1.1.below), omega (arith, h.1.1.1.1.2.below), omega (arith, h.1.1.1.1.3.below))

-- ---- lists with one more

all_more : {X : Type 0} (P : X → Type 0) (xs : List X) (x : X) → AllByRecursion P xs → P x → AllByRecursion P (xs ++ x ∷ [])
all_more P [] x h p = (p, tt)
all_more P (y ∷ xs) x h p = (h.0, all_more P xs x h.1 p)

-- in order, from one state of the transaction to another
abbrev InOrderTo : Bool → List Command → Bool → Type 0
InOrderTo was [] now = was ≡ now
InOrderTo was (c ∷ cs) now = (mid : Bool) × (Turns c was mid × InOrderTo mid cs now)

order_more : (was now next : Bool) (cs : List Command) (c : Command) → InOrderTo was cs now → Turns c now next → InOrderTo was (cs ++ c ∷ []) next
order_more was now next [] c h t = (next, (subst (λ (b : Bool). Turns c b next) (sym h) t, refl))
order_more was now next (d ∷ cs) c h t = (h.0, (h.1.0, order_more h.0 now next cs c h.1.1 t))

in_order : (was now : Bool) (cs : List Command) → InOrderTo was cs now → AreInOrder was cs
in_order was now [] h = tt
in_order was now (c ∷ cs) h = (h.0, (h.1.0, in_order h.0 now cs h.1.1))

-- ---- what was read

abbrev KeptCurrent : Option (List Command) → Bool → Type 0
KeptCurrent None inside = Unit {0}
KeptCurrent (Some cs) inside = AllByRecursion IsCommand cs × InOrderTo false cs inside

record Kept (r : Read) : Type 0 where
  few : length (all_scripts r) ≤ 64
  scripts : AllByRecursion IsScript r.scripts
  current : KeptCurrent r.current r.inside

kept_scripts : (scripts : List Script) (current : Option (List Command)) (inside : Bool) → AllByRecursion IsScript scripts → KeptCurrent current inside → AllByRecursion IsScript (and_current scripts current)
kept_scripts scripts None inside h k = h
kept_scripts scripts (Some cs) inside h k = all_more IsScript scripts (record { commands = cs }) h (k.0, in_order false inside cs k.1)

script_keeps : (r : Read) (line : List ℕ) → Kept r → length (all_scripts r) < 64 → Kept (record { scripts = all_scripts r; current = Some []; inside = false })
script_keeps r line k few = record {
  few = omega (arith, few, length-append (all_scripts r) (record { commands = [] } ∷ []));
  scripts = kept_scripts r.scripts r.current r.inside k.scripts k.current;
  current = (tt, refl);
}

command_line_keeps : (r q : Read) (line : List ℕ) → Kept r → is_one_line line ≡ true → (h : IsCommandLine r line q) → Kept (record { scripts = r.scripts; current = Some (h.commands ++ h.command ∷ []); inside = q.inside })
command_line_keeps r q line k o h =
    let now : KeptCurrent (Some h.commands) r.inside = subst (λ (c : Option (List Command)). KeptCurrent c r.inside) h.in_script k.current in
    let few : length (and_current r.scripts (Some h.commands)) ≤ 64 = subst (λ (c : Option (List Command)). length (and_current r.scripts c) ≤ 64) h.in_script k.few in
    record {
      few = omega (arith, few, length-append r.scripts (record { commands = h.commands } ∷ []), length-append r.scripts (record { commands = h.commands ++ h.command ∷ [] } ∷ []));
      scripts = k.scripts;
      current = (all_more IsCommand h.commands h.command now.0 (command_keeps h.command line o h.spells), order_more false r.inside q.inside h.commands h.command now.1 h.turns);
    }

line_keeps : (r q : Read) (line : List ℕ) → Kept r → is_one_line line ≡ true → IsLine r line q → Kept q
line_keeps r q line k o (inl h) = subst Kept h.1 k
line_keeps r q line k o (inr (inl h)) = subst Kept (sym h.begins) (script_keeps r line k h.few)
line_keeps r q line k o (inr (inr h)) = subst Kept (sym h.adds) (command_line_keeps r q line k o h)

lines_keep : (r q : Read) (lines : List (List ℕ)) → Kept r → AllByRecursion (λ line. is_one_line line ≡ true) lines → AreLines r lines q → Kept q
lines_keep r q [] k o h = subst Kept h k
lines_keep r q (line ∷ lines) k o h = lines_keep h.0 q lines (line_keeps r h.0 line k o.0 h.1.0) o.1 h.1.1

split_one : (xs : List ℕ) → AllByRecursion (λ line. is_one_line line ≡ true) (split 10 xs)
split_one [] = (refl, tt)
split_one (b ∷ xs) = elim (eqb_tells b 10) [
  | inl p ↦ subst (λ (v : Bool). AllByRecursion (λ line. is_one_line line ≡ true) (cond v ([] ∷ split 10 xs) (onto_first b (split 10 xs)))) (sym p.0) (refl, split_one xs)
  | inr p ↦ subst (λ (v : Bool). AllByRecursion (λ line. is_one_line line ≡ true) (cond v ([] ∷ split 10 xs) (onto_first b (split 10 xs)))) (sym p.0) (onto b (split 10 xs) p.0 (split_one xs))
]
  where
    onto : (b : ℕ) (parts : List (List ℕ)) → nat_eq b 10 ≡ false → AllByRecursion (λ line. is_one_line line ≡ true) parts → AllByRecursion (λ line. is_one_line line ≡ true) (onto_first b parts)
    onto b [] e h = (ap (λ (v : Bool). not v && true) e, tt)
    onto b (part ∷ parts) e h = (ap (λ (v : Bool). not v && is_one_line part) e ∙ h.0, h.1)

pub job_keeps : (text : List ℕ) (job : Job) → job_of text ≡ Ok job → AreScripts job.scripts
job_keeps text job e =
    let s = job_is text job e in
    let began : Kept nothing = record { few = omega arith; scripts = tt; current = tt } in
    let k = lines_keep nothing s.all (split 10 text) began (split_one text) s.lines in
    let scripts : AreScripts (all_scripts s.all) = record { few = k.few; each = kept_scripts s.all.scripts s.all.current s.all.inside k.scripts k.current } in
    subst AreScripts (sym (ap (λ (j : Job). j.scripts) s.scripts)) scripts

pub answer_keeps : (text : List ℕ) (result : Result Job ParseFault) → Answers result (job_of text) → IfOk result (λ job. AreScripts job.scripts)
answer_keeps text (Ok job) e = job_keeps text job e
answer_keeps text (Err fault) e = tt
