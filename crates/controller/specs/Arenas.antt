-- The content of an arena's fields.
use Rattle.std.specs.Prelude.{◌-◌, length, vec_capacity}
use Rattle.controller.specs.declared.arena.Arena.TheInside.{Inside}
use Rattle.controller.specs.Laid.{Laid, frames_from, behind, AreEnds}

abbrev pub laid : Inside → Laid
laid a = record {
  frames = frames_from 0 a.bytes.items a.ends.items;
  begun = behind 0 a.bytes.items a.ends.items;
  room = vec_capacity a.bytes - length a.bytes.items;
  entries = vec_capacity a.ends - length a.ends.items;
}

abbrev pub AreLaid : Inside → Type 0
AreLaid a = AreEnds 0 (length a.bytes.items) a.ends.items
