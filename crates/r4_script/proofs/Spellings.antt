-- The plain spelling of a job is a spelling of it.
use Rattle.std.proofs.Common.{◌≡◌, inl, inr, ℕ, ◌+◌, ◌-◌, ◌*◌, ◌/◌, ◌%◌, ◌^◌, ◌<◌, ◌≤◌, Bool, true, false, cond, not, ◌&&◌, nat_eq, nat_le, nat_lt, List, [], ◌∷◌, ◌++◌, length, map, codes, decimal, Some, None, refl, ap, ◌∙◌, sym, subst, arith, append_assoc, le-leb, leb-true, append-nil}
use Rattle.std.proofs.lemmas.Bool.Decides.{nat_tests}
use Rattle.std.specs.Prelude.{flat_map}
use Rattle.std.specs.List.{AllByRecursion}
use Rattle.std.specs.Char.{digit_value}
use Rattle.std.specs.Str.Parse.{AllDigits, digits_value_after}
use Rattle.std.proofs.lemmas.List.{length-append}
use Rattle.std.proofs.lemmas.Bool.{and_parts, lt-ltb, ne_eqb}
use Rattle.std.proofs.lemmas.Fmt.{decimal_is_IsNumeral, length-decimal-le, decimal_nonempty}
use Rattle.r4_content.specs.declared.command.Command.{Command}
use Rattle.r4_content.specs.declared.command.Command.TheVariants as commands
use Rattle.r4_script.specs.declared.job.Job.{Job}
use Rattle.r4_script.specs.declared.job.Script.{Script}
use Rattle.r4_script.specs.Field.{digits_from}
use Rattle.r4_script.specs.Grammar.{Decimal, Octal, IsNameByte, IsPath, joined, Spells, IsScriptLine, IsCommandLine, AreLines, SpellsJob}
use Rattle.r4_script.specs.Progress.{Read, nothing, all_scripts}
use Rattle.r4_script.specs.Spelling.{path_text, octal, command_text, scripts_lines, job_text, is_one_line, AreNames, IsCommand, AreInOrder, IsScript, IsJob}
use Rattle.r4_script.specs.Split.{onto_first, split}
use Rattle.r4_script.proofs.Numbers.{chosen}

-- ---- fields

-- a decimal digit is one
digit_is : (d : ℕ) → digit_value d < 10 → (48 ≤ d) × (d < 58) × (digit_value d ≡ d - 48)
digit_is d h = (grind (arith, nat_tests), grind (arith, nat_tests), grind (arith, nat_tests))

digits_read : (so_far : ℕ) (ds : List ℕ) → AllDigits 10 ds → digits_from 10 so_far ds ≡ Some (digits_value_after 10 so_far ds)
digits_read so_far [] h = refl
digits_read so_far (d ∷ ds) h =
    let i = digit_is d h.0 in
    ap (λ (v : Bool). cond (v && nat_lt d 58) (digits_from 10 (so_far * 10 + (d - 48)) ds) None) (le-leb 48 d i.0)
    ∙ ap (λ (v : Bool). cond v (digits_from 10 (so_far * 10 + (d - 48)) ds) None) (lt-ltb d 58 i.1)
    ∙ ap (λ (n : ℕ). digits_from 10 (so_far * 10 + n) ds) (sym i.2)
    ∙ digits_read (so_far * 10 + digit_value d) ds h.1

decimal_spells : (most n : ℕ) → n < 2 ^ 64 → n ≤ most → Decimal most (decimal n) n
decimal_spells most n h k =
    let m = decimal_is_IsNumeral n h in
    record {
      some = decimal_nonempty n h;
      few = length-decimal-le 20 n (omega arith) (omega arith) h;
      value = digits_read 0 (decimal n) (m.0).1 ∙ ap Some m.1;
      below = k;
    }

octal_digit : (x so_far : ℕ) (ds : List ℕ) → x < 8 → digits_from 8 so_far ((48 + x) ∷ ds) ≡ digits_from 8 (so_far * 8 + x) ds
octal_digit x so_far ds h =
    ap (λ (v : Bool). cond (v && nat_lt (48 + x) 56) (digits_from 8 (so_far * 8 + (48 + x - 48)) ds) None) (le-leb 48 (48 + x) (omega arith))
    ∙ ap (λ (v : Bool). cond v (digits_from 8 (so_far * 8 + (48 + x - 48)) ds) None) (lt-ltb (48 + x) 56 (omega arith))
    ∙ ap (λ (n : ℕ). digits_from 8 (so_far * 8 + n) ds) (omega arith)

octal_spells : (mode : ℕ) → mode < 4096 → Octal (octal mode) mode
octal_spells mode h =
    let whole : (((0 * 8 + mode / 8 / 8 / 8) * 8 + mode / 8 / 8 % 8) * 8 + mode / 8 % 8) * 8 + mode % 8 ≡ mode = omega arith in
    let value : digits_from 8 0 (octal mode) ≡ Some mode =
    octal_digit (mode / 8 / 8 / 8) 0 ((48 + mode / 8 / 8 % 8) ∷ (48 + mode / 8 % 8) ∷ (48 + mode % 8) ∷ []) (omega arith)
    ∙ octal_digit (mode / 8 / 8 % 8) (0 * 8 + mode / 8 / 8 / 8) ((48 + mode / 8 % 8) ∷ (48 + mode % 8) ∷ []) (omega arith)
    ∙ octal_digit (mode / 8 % 8) ((0 * 8 + mode / 8 / 8 / 8) * 8 + mode / 8 / 8 % 8) ((48 + mode % 8) ∷ []) (omega arith)
    ∙ octal_digit (mode % 8) (((0 * 8 + mode / 8 / 8 / 8) * 8 + mode / 8 / 8 % 8) * 8 + mode / 8 % 8) [] (omega arith)
    ∙ ap Some whole in
    record { some = omega arith; few = omega arith; value = value; below = omega arith }

path_spells : (p : List (List ℕ)) → AreNames p → IsPath (path_text p) p
path_spells [] h = refl
path_spells (name ∷ names) h = (refl, h.bytes, h.some)

-- ---- lines without a newline

digits_one : (base so_far : ℕ) (ds : List ℕ) (n : ℕ) → digits_from base so_far ds ≡ Some n → is_one_line ds ≡ true
digits_one base so_far [] n e = refl
digits_one base so_far (d ∷ ds) n e =
    let c = chosen (nat_le 48 d && nat_lt d (48 + base)) (digits_from base (so_far * base + (d - 48)) ds) n e in
    let t = and_parts (nat_le 48 d) (nat_lt d (48 + base)) c.0 in
    let low : 48 ≤ d = leb-true 48 d t.0 in
    ap (λ (v : Bool). not v && is_one_line ds) (ne_eqb d 10 (λ same. absurd (omega (arith, low, same)))) ∙ digits_one base (so_far * base + (d - 48)) ds n c.1

pub one_append : (a b : List ℕ) → is_one_line a ≡ true → is_one_line b ≡ true → is_one_line (a ++ b) ≡ true
one_append [] b h k = k
one_append (x ∷ a) b h k =
    let t = and_parts (not (nat_eq x 10)) (is_one_line a) h in
    ap (λ (v : Bool). v && is_one_line (a ++ b)) t.0 ∙ one_append a b t.1 k

name_one : (name : List ℕ) → AllByRecursion IsNameByte name → is_one_line name ≡ true
name_one [] h = refl
name_one (b ∷ name) h = ap (λ (v : Bool). not v && is_one_line name) (ne_eqb b 10 (λ same. absurd (omega (arith, same, (h.0).above)))) ∙ name_one name h.1

names_one : (names : List (List ℕ)) → AllByRecursion (AllByRecursion IsNameByte) names → is_one_line (flat_map (λ n. 47 ∷ n) names) ≡ true
names_one [] h = refl
names_one (name ∷ names) h = one_append name (flat_map (λ n. 47 ∷ n) names) (name_one name h.0) (names_one names h.1)

path_one : (p : List (List ℕ)) → AreNames p → is_one_line (path_text p) ≡ true
path_one [] h = refl
path_one (name ∷ names) h = names_one (name ∷ names) h.bytes

joined_one : (fields : List (List ℕ)) → AllByRecursion (λ f. is_one_line f ≡ true) fields → is_one_line (joined fields) ≡ true
joined_one [] h = refl
joined_one (f ∷ []) h = h.0
joined_one (f ∷ g ∷ fields) h = one_append f (32 ∷ joined (g ∷ fields)) h.0 (joined_one (g ∷ fields) h.1)

-- ---- a command

decimal_one : (n : ℕ) → n < 2 ^ 64 → is_one_line (decimal n) ≡ true
decimal_one n h = digits_one 10 0 (decimal n) n (decimal_spells n n h (omega arith)).value

command_spells : (c : Command) → IsCommand c → Spells (command_text c) c
command_spells commands.Begin h = refl
command_spells commands.End h = refl
command_spells commands.Commit h = refl
command_spells (commands.Create p oid) h = (h.0, (path_text p, (path_spells p h.1, refl)))
command_spells (commands.Mkdir p oid) h = (h.0, (path_text p, (path_spells p h.1, refl)))
command_spells (commands.Write p offset text) h = (h.2, (path_text p, (decimal offset, (path_spells p h.0, decimal_spells _ offset h.1 (omega (arith, h.1)), refl))))
command_spells (commands.Fill p offset len byte) h = (path_text p, (decimal offset, (decimal len, (decimal byte, (path_spells p h.0, decimal_spells _ offset h.1 (omega (arith, h.1)), decimal_spells _ len (omega (arith, h.2)) h.2, decimal_spells _ byte (omega (arith, h.3)) h.3, refl)))))
command_spells (commands.Truncate p size) h = (path_text p, (decimal size, (path_spells p h.0, decimal_spells _ size h.1 (omega (arith, h.1)), refl)))
command_spells (commands.Read p offset len) h = (path_text p, (decimal offset, (decimal len, (path_spells p h.0, decimal_spells _ offset h.1 (omega (arith, h.1)), decimal_spells _ len (omega (arith, h.2)) h.2, refl))))
command_spells (commands.Stat p) h = (path_text p, (path_spells p h, refl))
command_spells (commands.Names p) h = (path_text p, (path_spells p h, refl))
command_spells (commands.Link p q) h = (path_text p, (path_text q, (path_spells p h.0, path_spells q h.1, refl)))
command_spells (commands.Unlink p) h = (path_text p, (path_spells p h, refl))
command_spells (commands.Rmdir p) h = (path_text p, (path_spells p h, refl))
command_spells (commands.Rename p q) h = (path_text p, (path_text q, (path_spells p h.0, path_spells q h.1, refl)))
command_spells (commands.Chmod p mode) h = (path_text p, (octal mode, (path_spells p h.0, octal_spells mode h.1, refl)))
command_spells (commands.Chown p uid gid) h = (path_text p, (decimal uid, (decimal gid, (path_spells p h.0, decimal_spells _ uid (omega (arith, h.1)) (omega (arith, h.1)), decimal_spells _ gid (omega (arith, h.2)) (omega (arith, h.2)), refl))))
command_spells (commands.Times p atime mtime ctime) h = (path_text p, (decimal atime, (decimal mtime, (decimal ctime, (path_spells p h.0, decimal_spells _ atime (omega (arith, h.1)) (omega (arith, h.1)), decimal_spells _ mtime (omega (arith, h.2)) (omega (arith, h.2)), decimal_spells _ ctime (omega (arith, h.3)) (omega (arith, h.3)), refl)))))

command_one : (c : Command) → IsCommand c → is_one_line (command_text c) ≡ true
command_one commands.Begin h = refl
command_one commands.End h = refl
command_one commands.Commit h = refl
command_one (commands.Create p oid) h = joined_one (codes "create" ∷ path_text p ∷ []) (refl, (path_one p h.1, tt))
command_one (commands.Mkdir p oid) h = joined_one (codes "mkdir" ∷ path_text p ∷ []) (refl, (path_one p h.1, tt))
command_one (commands.Write p offset text) h = joined_one (codes "write" ∷ path_text p ∷ decimal offset ∷ text ∷ []) (refl, (path_one p h.0, (decimal_one offset h.1, (h.3, tt))))
command_one (commands.Fill p offset len byte) h = joined_one (codes "fill" ∷ path_text p ∷ decimal offset ∷ decimal len ∷ decimal byte ∷ []) (refl, (path_one p h.0, (decimal_one offset h.1, (decimal_one len (omega (arith, h.2)), (decimal_one byte (omega (arith, h.3)), tt)))))
command_one (commands.Truncate p size) h = joined_one (codes "truncate" ∷ path_text p ∷ decimal size ∷ []) (refl, (path_one p h.0, (decimal_one size h.1, tt)))
command_one (commands.Read p offset len) h = joined_one (codes "read" ∷ path_text p ∷ decimal offset ∷ decimal len ∷ []) (refl, (path_one p h.0, (decimal_one offset h.1, (decimal_one len (omega (arith, h.2)), tt))))
command_one (commands.Stat p) h = joined_one (codes "stat" ∷ path_text p ∷ []) (refl, (path_one p h, tt))
command_one (commands.Names p) h = joined_one (codes "names" ∷ path_text p ∷ []) (refl, (path_one p h, tt))
command_one (commands.Link p q) h = joined_one (codes "link" ∷ path_text p ∷ path_text q ∷ []) (refl, (path_one p h.0, (path_one q h.1, tt)))
command_one (commands.Unlink p) h = joined_one (codes "unlink" ∷ path_text p ∷ []) (refl, (path_one p h, tt))
command_one (commands.Rmdir p) h = joined_one (codes "rmdir" ∷ path_text p ∷ []) (refl, (path_one p h, tt))
command_one (commands.Rename p q) h = joined_one (codes "rename" ∷ path_text p ∷ path_text q ∷ []) (refl, (path_one p h.0, (path_one q h.1, tt)))
command_one (commands.Chmod p mode) h = joined_one (codes "chmod" ∷ path_text p ∷ octal mode ∷ []) (refl, (path_one p h.0, (digits_one 8 0 (octal mode) mode (octal_spells mode h.1).value, tt)))
command_one (commands.Chown p uid gid) h = joined_one (codes "chown" ∷ path_text p ∷ decimal uid ∷ decimal gid ∷ []) (refl, (path_one p h.0, (decimal_one uid (omega (arith, h.1)), (decimal_one gid (omega (arith, h.2)), tt))))
command_one (commands.Times p atime mtime ctime) h = joined_one (codes "times" ∷ path_text p ∷ decimal atime ∷ decimal mtime ∷ decimal ctime ∷ []) (refl, (path_one p h.0, (decimal_one atime (omega (arith, h.1)), (decimal_one mtime (omega (arith, h.2)), (decimal_one ctime (omega (arith, h.3)), tt)))))

-- ---- lines

line_split : (line rest : List ℕ) → is_one_line line ≡ true → split 10 ((line ++ (10 ∷ [])) ++ rest) ≡ line ∷ split 10 rest
line_split [] rest h = refl
line_split (b ∷ line) rest h =
    let t = and_parts (not (nat_eq b 10)) (is_one_line line) h in
    ap (λ (v : Bool). cond v ([] ∷ split 10 ((line ++ (10 ∷ [])) ++ rest)) (onto_first b (split 10 ((line ++ (10 ∷ [])) ++ rest)))) (not_true (nat_eq b 10) t.0)
    ∙ ap (onto_first b) (line_split line rest t.1)
  where
    not_true : (v : Bool) → not v ≡ true → v ≡ false
    not_true true e = absurd cc
    not_true false e = refl

pub lines_split : (lines : List (List ℕ)) → AllByRecursion (λ line. is_one_line line ≡ true) lines → split 10 (flat_map (λ line. line ++ (10 ∷ [])) lines) ≡ lines ++ ([] ∷ [])
lines_split [] h = refl
lines_split (line ∷ lines) h = line_split line (flat_map (λ line. line ++ (10 ∷ [])) lines) h.0 ∙ ap (λ (l : List (List ℕ)). line ∷ l) (lines_split lines h.1)

commands_one : (cs : List Command) (rest : List (List ℕ)) → AllByRecursion IsCommand cs → AllByRecursion (λ line. is_one_line line ≡ true) rest → AllByRecursion (λ line. is_one_line line ≡ true) (map command_text cs ++ rest)
commands_one [] rest h k = k
commands_one (c ∷ cs) rest h k = (command_one c h.0, commands_one cs rest h.1 k)

scripts_one : (scripts : List Script) → AllByRecursion IsScript scripts → AllByRecursion (λ line. is_one_line line ≡ true) (scripts_lines scripts)
scripts_one [] h = tt
scripts_one (s ∷ scripts) h = (refl, commands_one s.commands (scripts_lines scripts) (h.0).0 (scripts_one scripts h.1))

-- ---- scripts

-- lines lead to these scripts
record Leads (r : Read) (lines : List (List ℕ)) (want : List Script) : Type 0 where
  last : Read
  lines_are : AreLines r lines last
  scripts_are : all_scripts last ≡ want

commands_lead : (scripts : List Script) (so_far : List Command) (inside : Bool) (cs : List Command) (rest : List (List ℕ)) (want : List Script)
    → AllByRecursion IsCommand cs → AreInOrder inside cs
    → ((now : Bool) → Leads (record { scripts = scripts; current = Some (so_far ++ cs); inside = now }) rest want)
    → Leads (record { scripts = scripts; current = Some so_far; inside = inside }) (map command_text cs ++ rest) want
commands_lead scripts so_far inside [] rest want h k more = subst (λ (l : List Command). Leads (record { scripts = scripts; current = Some l; inside = inside }) rest want) (append-nil so_far) (more inside)
commands_lead scripts so_far inside (c ∷ cs) rest want h k more =
    let next = commands_lead scripts (so_far ++ c ∷ []) k.0 cs rest want h.1 k.1.1
    (λ now. subst (λ (l : List Command). Leads (record { scripts = scripts; current = Some l; inside = now }) rest want) (sym (append_assoc so_far (c ∷ []) cs)) (more now)) in
    let line : IsCommandLine (record { scripts = scripts; current = Some so_far; inside = inside }) (command_text c) (record { scripts = scripts; current = Some (so_far ++ c ∷ []); inside = k.0 }) =
    record { commands = so_far; command = c; in_script = refl; spells = command_spells c h.0; turns = k.1.0; adds = refl } in
    record { last = next.last; lines_are = (record { scripts = scripts; current = Some (so_far ++ c ∷ []); inside = k.0 }, (inr (inr line), next.lines_are)); scripts_are = next.scripts_are }

scripts_lead : (r : Read) (scripts want : List Script) → AllByRecursion IsScript scripts → length (all_scripts r) + length scripts ≤ 64 → all_scripts r ++ scripts ≡ want → Leads r (scripts_lines scripts ++ ([] ∷ [])) want
scripts_lead r [] want h few e = record { last = r; lines_are = (r, (inl (tt, refl), refl)); scripts_are = sym (append-nil (all_scripts r)) ∙ e }
scripts_lead r (s ∷ scripts) want h few e =
    let began : Read = record { scripts = all_scripts r; current = Some []; inside = false } in
    let line : IsScriptLine r (codes "script") began = record { word = refl; few = omega (arith, few); begins = refl } in
    let next = commands_lead (all_scripts r) [] false s.commands (scripts_lines scripts ++ ([] ∷ [])) want (h.0).0 (h.0).1
    (λ now. scripts_lead (record { scripts = all_scripts r; current = Some s.commands; inside = now }) scripts want h.1
    (omega (arith, few, length-append (all_scripts r) (s ∷ [])))
    (append_assoc (all_scripts r) (s ∷ []) scripts ∙ e)) in
    record {
      last = next.last;
      lines_are = (began, (inr (inl line), subst (λ (l : List (List ℕ)). AreLines began l next.last) (sym (append_assoc (map command_text s.commands) (scripts_lines scripts) ([] ∷ []))) next.lines_are));
      scripts_are = next.scripts_are;
    }

pub job_spells : (job : Job) → IsJob job → SpellsJob (job_text job) job
job_spells job h =
    let l = scripts_lead nothing job.scripts job.scripts h.scripts.each (omega (arith, h.scripts.few)) refl in
    record {
      short = h.short;
      all = l.last;
      lines = subst (λ (ls : List (List ℕ)). AreLines nothing ls l.last) (sym (lines_split (scripts_lines job.scripts) (scripts_one job.scripts h.scripts.each))) l.lines_are;
      scripts = ap (λ (s : List Script). record { scripts = s }) (sym l.scripts_are);
    }
