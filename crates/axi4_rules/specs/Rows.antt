-- What a clause sees of rows in memory, and of what fills them.
use Rattle.std.specs.Prelude.{ℕ, List, [], ◌∷◌, ◌++◌, map}
use Rattle.axi4_rules.specs.declared.row.Row.{Row}
use Rattle.axi4_rules.specs.declared.row_values.Filling.{Filling}
use Rattle.axi4_rules.specs.declared.form.Form.{Form}
use Rattle.axi4_rules.specs.declared.form.Form.TheVariants.{Rule, Always, Counter}
use Rattle.axi4_rules.specs.Rules as rules
use Rattle.axi4_rules.specs.declared.port.Port.{Port}
use Rattle.axi4_rules.specs.Rules.{rule_line, reset_line, counter_line, of_port, for_ids}
use Rattle.axi4_rules.specs.Rules.{all_filled, words}
use Rattle.axi4_rules.specs.Rules.{channel_lines, stable_lines, address_lines, address_rows}
use Rattle.axi4_rules.specs.Views.{texts_of}
use Rattle.std.specs.Fmt.{decimal}
use Rattle.std.specs.Borrow.{Bor}
use Rattle.axi4_rules.specs.Seen.{port_data}

abbrev pub row_data : Row → rules.Row
row_data r = record { name = r.name.now; first = r.first.now; second = r.second.now }

abbrev pub fills : Filling → rules.Filling
fills f = record { port = port_data f.port.now; channel = f.channel.now; item = f.item.now }

-- the line of a row in a form
abbrev pub line_in : Form → rules.Filling → rules.Row → List ℕ
line_in Rule f r = rule_line f r
line_in Always f r = reset_line f r
line_in Counter f r = counter_line f r

-- the words of a row, with a template after its name
abbrev pub row_words : rules.Filling → rules.Row → List ℕ → List ℕ
row_words f r middle = words f r.name ++ words f middle ++ words f r.first ++ words f r.second

-- the same between a front and an end
abbrev pub framed_words : rules.Filling → rules.Row → List ℕ → List ℕ → List ℕ → List ℕ
framed_words f r front middle end =
    front ++ words f r.name ++ words f middle ++ words f r.first ++ words f r.second ++ end

-- the line of a row in memory
abbrev pub line_of : Form → Filling → Row → List ℕ
line_of form f r = line_in form (fills f) (row_data r)

abbrev pub filled_texts : Filling → List (Bor (List ℕ)) → List ℕ
filled_texts f ws = all_filled (fills f) (texts_of ws)

-- the block of a channel, its rules of payload signals alone, and the block of an address channel
abbrev pub block_of : Port → List ℕ → List (Bor (List ℕ)) → List (List ℕ)
block_of p channel payload = channel_lines (port_data p) channel (texts_of payload)

abbrev pub stable_block : Port → List ℕ → List (Bor (List ℕ)) → List (List ℕ)
stable_block p channel payload = stable_lines (port_data p) channel (texts_of payload)

abbrev pub address_block : Port → List ℕ → List (List ℕ)
address_block p channel = address_lines (port_data p) channel

-- the lines of an address channel's rows, for beats of that many bits
abbrev pub address_table : Filling → ℕ → List (List ℕ)
address_table f width = map (rule_line (fills f)) (address_rows width)

-- the one line of a row, those of rows, that of a row for an ID, and those for each watched ID
abbrev pub one_line : Form → Filling → Row → List (List ℕ)
one_line form f r = line_of form f r ∷ []

abbrev pub all_lines : Form → Filling → List Row → List (List ℕ)
all_lines form f rs = map (line_in form (fills f)) (map row_data rs)

abbrev pub id_line : Form → Port → ℕ → Row → List (List ℕ)
id_line form p i r = line_in form (of_port (port_data p) (decimal i)) (row_data r) ∷ []

abbrev pub id_lines : Form → Port → Row → List (List ℕ)
id_lines form p r = for_ids (line_in form) (port_data p) (row_data r)
