-- Before the first call: document 01, 'Trial program'.
use Rattle.std.specs.Prelude.{ℕ, true, pos}
use Rattle.stand.specs.declared.volume.Volume.{Volume}
use Rattle.interpreter.specs.declared.Machine.{Machine}

-- the rate of a finish that has none
abbrev pub unset : ℕ
unset = 4294967295

-- a header that no opening gives, so that 3 refuses calls
abbrev pub no_volume : Volume
no_volume =
    record {
      origin = record { x = pos 0; y = pos 0; z = pos 0 };
      chunks = record { x = pos 0; y = pos 0; z = pos 0 };
      size = record { x = pos 0; y = pos 0; z = pos 0 };
      generation = 0;
      solid = 0;
    }

abbrev pub start_machine : Machine
start_machine = record { volume = no_volume; marks = record { sheet = 0 }; stale = true; cut = 0 }
