-- What a clause sees of a port in memory.
use Rattle.std.specs.Prelude.{◌≡◌, Result, Ok, Err, string_bytes}
use Rattle.axi4_rules.specs.declared.port.Port.{Port}
use Rattle.axi4_rules.specs.declared.mode.Mode.{Mode}
use Rattle.axi4_rules.specs.declared.fault.PortFault.{PortFault}
use Rattle.axi4_rules.specs.declared.fault.PortFault.TheVariants as faults
use Rattle.axi4_rules.specs.Lines.{PortData, LineData}

abbrev pub port_data : Port → PortData
port_data p = record {
  name = string_bytes p.name;
  paths = record {
    clock = string_bytes p.clock;
    reset = string_bytes p.reset;
    prefix = string_bytes p.prefix;
  };
  sizes = record { addr = p.addr; data_width = p.data_width; id = p.id; wait = p.wait };
  case = p.case;
  watch = p.watch.items;
}

abbrev pub line_data : Port × Mode → LineData
line_data l = record { port = port_data l.0; mode = l.1 }

-- What a function returned, seen by a view, is what the definition says, unless memory ran out.
abbrev pub IsFault : {Y : Type 0} → PortFault → Result Y PortFault → Type 0
IsFault faults.Memory said = Unit {0}
IsFault e said = said ≡ Err e

abbrev pub Gives : {X Y : Type 0} → (X → Y) → Result X PortFault → Result Y PortFault → Type 0
Gives view (Ok x) said = said ≡ Ok (view x)
Gives view (Err e) said = IsFault e said
