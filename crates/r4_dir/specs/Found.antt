-- Where an object with its entry stands.
use Rattle.std.specs.Prelude.{[], ◌∷◌, ◌++◌, map}
use Rattle.r4_content.specs.Ways.{Place}
use Rattle.r4_dir.specs.Coming.{object_of}
use Rattle.r4_content.specs.declared.reply.Reply.{Reply}
use Rattle.r4_content.specs.declared.reply.Reply.TheVariants.{Isdir, Loop}
use Rattle.r4_dir.specs.declared.ways.Found as held
use Rattle.r4_dir.specs.declared.ways.OfRoot.{OfRoot}
use Rattle.r4_dir.specs.declared.ways.OfRoot.TheVariants.{Isdir as RootIsdir, Loop as RootLoop}

abbrev pub place_found : held.Found → Place
place_found f = record {
  here = object_of f.object;
  above = map object_of f.above.items
      ++ object_of f.dir ∷ [];
}

abbrev pub root_reply : OfRoot → Reply
root_reply RootIsdir = Isdir
root_reply RootLoop = Loop
