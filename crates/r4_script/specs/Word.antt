-- The words with which lines begin (docs/scripts.md, "Commands").
use Rattle.std.specs.Prelude.{ℕ, List, codes, bytes_eq, if◌then◌else◌, Option, Some, None}
use Rattle.r4_script.specs.declared.word.Verb.{Verb}
use Rattle.r4_script.specs.declared.word.Verb.TheVariants.{Script, Begin, End, Commit, Create, Mkdir, Write, Fill, Truncate, Read, Stat, Names, Link, Unlink, Rmdir, Rename, Chmod, Chown, Times}

-- the second half of the words
abbrev pub later_verb_of : List ℕ → Option Verb
later_verb_of word =
    if bytes_eq word (codes "stat") then Some Stat else
    if bytes_eq word (codes "names") then Some Names else
    if bytes_eq word (codes "link") then Some Link else
    if bytes_eq word (codes "unlink") then Some Unlink else
    if bytes_eq word (codes "rmdir") then Some Rmdir else
    if bytes_eq word (codes "rename") then Some Rename else
    if bytes_eq word (codes "chmod") then Some Chmod else
    if bytes_eq word (codes "chown") then Some Chown else
    if bytes_eq word (codes "times") then Some Times else
    None

-- what a word asks for
abbrev pub verb_of : List ℕ → Option Verb
verb_of word =
    if bytes_eq word (codes "script") then Some Script else
    if bytes_eq word (codes "begin") then Some Begin else
    if bytes_eq word (codes "end") then Some End else
    if bytes_eq word (codes "commit") then Some Commit else
    if bytes_eq word (codes "create") then Some Create else
    if bytes_eq word (codes "mkdir") then Some Mkdir else
    if bytes_eq word (codes "write") then Some Write else
    if bytes_eq word (codes "fill") then Some Fill else
    if bytes_eq word (codes "truncate") then Some Truncate else
    if bytes_eq word (codes "read") then Some Read else
    later_verb_of word
