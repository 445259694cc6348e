-- What a clause sees of a line that was read.
use Rattle.axi4_rules.specs.declared.paths.Paths.{Paths}
use Rattle.axi4_rules.specs.declared.sizes.Sizes.{Sizes}
use Rattle.axi4_rules.specs.declared.draft.Draft.{Draft}
use Rattle.std.specs.Prelude.{Bool}
use Rattle.axi4_rules.specs.Ports.{are_names}
use Rattle.axi4_rules.specs.Lines.{PathData, SizeData, LineData}

abbrev pub path_data : Paths → PathData
path_data p = record { clock = p.clock.now; reset = p.reset.now; prefix = p.prefix.now }

abbrev pub size_data : Sizes → SizeData
size_data s = record { addr = s.addr; data_width = s.data_width; id = s.id; wait = s.wait }

abbrev pub draft_data : Draft → LineData
draft_data d = record {
  port = record {
    name = d.name.now;
    paths = path_data d.paths;
    sizes = size_data d.sizes;
    case = d.case;
    watch = d.watch.items;
  };
  mode = d.mode;
}

abbrev pub is_named_draft : Draft → Bool
is_named_draft d = are_names d.name.now (path_data d.paths)
