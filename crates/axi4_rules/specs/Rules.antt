-- The rules of AXI4 and the counters that they read, as this project chose them.
use Rattle.std.specs.Prelude.{ℕ, ◌==◌, List, [], ◌∷◌, ◌++◌, map, codes, if◌then◌else◌}
use Rattle.std.specs.List.{flat_map}
use Rattle.std.specs.Fmt.{decimal}
use Rattle.std.specs.Char.{to_ascii_uppercase}
use Rattle.std.specs.Str.{bytes_eq}
use Rattle.axi4_rules.specs.declared.case.Case.{Case}
use Rattle.axi4_rules.specs.declared.case.Case.TheVariants as cases
use Rattle.axi4_rules.specs.declared.mode.Mode.{Mode}
use Rattle.axi4_rules.specs.declared.mode.Mode.TheVariants as modes
use Rattle.axi4_rules.specs.Texts.{fields, tokens}
use Rattle.axi4_rules.specs.Lines.{PortData}

-- What fills a line of the table: a port; a channel, or nothing where the table writes its names
-- out; an item, as a payload signal, an ID, the wait or the address width.
pub record Filling : Type 0 where
  pub port : PortData
  pub channel : List ℕ
  pub item : List ℕ

-- the item in place of the first ?
abbrev pub with_item : List ℕ → List ℕ → List ℕ
with_item item [] = []
with_item item (b ∷ bs) = if b == 63 then item ++ bs else b ∷ with_item item bs

abbrev pub in_case : Case → List ℕ → List ℕ
in_case cases.Lower name = name
in_case cases.Upper name = map to_ascii_uppercase name

-- a signal of the channel, after the prefix and in the port's case
abbrev pub signal : Filling → List ℕ → List ℕ
signal f word = f.port.paths.prefix ++ in_case f.port.case (f.channel ++ with_item f.item word)

-- a name of the port's own, of a rule or a counter
abbrev pub own_name : Filling → List ℕ → List ℕ
own_name f word = f.port.name ++ codes "_" ++ f.channel ++ with_item f.item word

-- % begins a signal and _ a name of the port's own; other words stand for themselves
abbrev pub filled_word : Filling → List ℕ → List ℕ
filled_word f [] = []
filled_word f (b ∷ bs) =
    if b == 37 then signal f bs
    else (if b == 95 then own_name f bs
    else with_item f.item (b ∷ bs))

-- CLOCK and RESET are the port's paths
unfoldable pub filled : Filling → List ℕ → List ℕ
filled f word =
    if bytes_eq word (codes "CLOCK") then f.port.paths.clock
    else (if bytes_eq word (codes "RESET") then f.port.paths.reset
    else filled_word f word)

-- words, each filled and with a space after
abbrev pub all_filled : Filling → List (List ℕ) → List ℕ
all_filled f ws = flat_map (λ w. filled f w ++ codes " ") ws

-- the words of a template
unfoldable pub words : Filling → List ℕ → List ℕ
words f template = all_filled f (fields template)

-- a row of a table of rules: the rule's name and what it says, in two halves
pub record Row : Type 0 where
  pub name : List ℕ
  pub first : List ℕ
  pub second : List ℕ

abbrev pub row : List ℕ → List ℕ → List ℕ → Row
row name first second = record { name = name; first = first; second = second }

-- a rule that isn't looked at in reset
unfoldable pub rule_line : Filling → Row → List ℕ
rule_line f r =
    words f r.name
    ++ words f (codes ": assert property ( @ ( posedge CLOCK ) disable iff ( ! RESET )")
    ++ words f r.first ++ words f r.second ++ codes ") ;"

-- the same without `disable iff`
unfoldable pub reset_line : Filling → Row → List ℕ
reset_line f r =
    words f r.name ++ words f (codes ": assert property ( @ ( posedge CLOCK )")
    ++ words f r.first ++ words f r.second ++ codes ") ;"

-- a counter that reset clears; its name has its width after it
unfoldable pub counter_line : Filling → Row → List ℕ
counter_line f r =
    codes "counter " ++ words f r.name ++ words f (codes "clear ( ! RESET )")
    ++ words f r.first ++ words f r.second ++ codes ";"

-- Every channel: a channel's payload is stable while it waits.

unfoldable pub reset_row : Row
reset_row = row (codes "__reset") (codes "! RESET |=> ! %valid") []

unfoldable pub hold_row : Row
hold_row = row (codes "__hold") (codes "%valid && ! %ready |=> %valid") []

-- the item is a payload signal
unfoldable pub stable_row : Row
stable_row = row (codes "_?_stable") (codes "%valid && ! %ready |=> $stable ( %? )") []

-- the item is the wait
unfoldable pub wait_row : Row
wait_row = row (codes "__wait") (codes "%valid && ! %ready |-> ## [ 1 : ? ] %ready") []

abbrev pub of_channel : PortData → List ℕ → List ℕ → Filling
of_channel p channel item = record { port = p; channel = channel; item = item }

abbrev pub wait_lines : PortData → List ℕ → List (List ℕ)
wait_lines p channel =
    if p.sizes.wait == 0 then []
    else rule_line (of_channel p channel (decimal p.sizes.wait)) wait_row ∷ []

abbrev pub stable_lines : PortData → List ℕ → List (List ℕ) → List (List ℕ)
stable_lines p channel payload = map (λ s. rule_line (of_channel p channel s) stable_row) payload

unfoldable pub channel_lines : PortData → List ℕ → List (List ℕ) → List (List ℕ)
channel_lines p channel payload =
    reset_line (of_channel p channel []) reset_row
    ∷ rule_line (of_channel p channel []) hold_row
    ∷ (stable_lines p channel payload ++ wait_lines p channel)

unfoldable pub address_payload : List (List ℕ)
address_payload =
    codes "id" ∷ codes "addr" ∷ codes "len" ∷ codes "size" ∷ codes "burst" ∷ codes "lock"
    ∷ codes "cache" ∷ codes "prot" ∷ []

unfoldable pub write_payload : List (List ℕ)
write_payload = codes "strb" ∷ codes "last" ∷ []

unfoldable pub response_payload : List (List ℕ)
response_payload = codes "id" ∷ codes "resp" ∷ []

unfoldable pub read_payload : List (List ℕ)
read_payload = codes "id" ∷ codes "resp" ∷ codes "last" ∷ []

-- The two address channels.

-- log2 of the bytes of a beat
unfoldable pub size_bound : ℕ → List ℕ
size_bound width =
    if width == 8 then codes "3'd0"
    else (if width == 16 then codes "3'd1"
    else (if width == 32 then codes "3'd2"
    else (if width == 64 then codes "3'd3"
    else codes "3'd4")))

-- the rows for a beat of that many bits; the item is the address width
unfoldable pub address_rows : ℕ → List Row
address_rows width =
    row (codes "__burst") (codes "%valid |-> %burst != 2'b11") []
    ∷ row (codes "__len") (codes "%valid && %burst != 2'b01 |-> %len <= 8'd15") []
    ∷ row (codes "__size") (codes "%valid |-> %size <=") (size_bound width)
    ∷ row (codes "__wrap_len") (codes "%valid && %burst == 2'b10 |-> %len == 8'd1 || %len == 8'd3")
    (codes "|| %len == 8'd7 || %len == 8'd15")
    ∷ row (codes "__wrap_align") (codes "%valid && %burst == 2'b10 |->")
    (codes "( %addr & ( ( ?'d1 << %size ) - ?'d1 ) ) == ?'d0")
    ∷ row (codes "__4k")
    (codes "%valid && %burst == 2'b01 |-> ( { 8'd0 , %addr [ 11 : 0 ] } & ~ ( ( 20'd1 <<")
    (codes "%size ) - 20'd1 ) ) + ( ( { 12'd0 , %len } + 20'd1 ) << %size ) <= 20'd4096")
    ∷ row (codes "__cache") (codes "%valid && ! %cache [ 1 ] |-> %cache [ 3 : 2 ] == 2'b00") []
    ∷ row (codes "__excl_len") (codes "%valid && %lock |-> %len <= 8'd15") []
    ∷ row (codes "__excl_bytes")
    (codes "%valid && %lock |-> $onehot ( ( ( { 12'd0 , %len } + 20'd1 ) << %size ) )")
    (codes "&& ( ( { 12'd0 , %len } + 20'd1 ) << %size ) <= 20'd128")
    ∷ row (codes "__excl_align") (codes "%valid && %lock |-> ( { 8'd0 , %addr [ 11 : 0 ] }")
    (codes "& ( ( ( { 12'd0 , %len } + 20'd1 ) << %size ) - 20'd1 ) ) == 20'd0")
    ∷ []

unfoldable pub address_lines : PortData → List ℕ → List (List ℕ)
address_lines p channel =
    map (rule_line (of_channel p channel (decimal p.sizes.addr))) (address_rows p.sizes.data_width)

-- Counters, and the rules that read them.

unfoldable pub counter_rows : List Row
counter_rows =
    row (codes "_awo [ 16 ]") (codes "add ( %awvalid && %awready , 1 )")
    (codes "sub ( %bvalid && %bready , 1 )")
    ∷ row (codes "_wlo [ 16 ]") (codes "add ( %wvalid && %wready && %wlast , 1 )")
    (codes "sub ( %bvalid && %bready , 1 )")
    ∷ row (codes "_aro [ 16 ]") (codes "add ( %arvalid && %arready , 1 )")
    (codes "sub ( %rvalid && %rready && %rlast , 1 )")
    ∷ []

-- the item is a watched ID
unfoldable pub writes_row : Row
writes_row =
    row (codes "_awo_? [ 16 ]") (codes "add ( %awvalid && %awready && %awid == ? , 1 )")
    (codes "sub ( %bvalid && %bready && %bid == ? , 1 )")

unfoldable pub reads_row : Row
reads_row =
    row (codes "_aro_? [ 16 ]") (codes "add ( %arvalid && %arready && %arid == ? , 1 )")
    (codes "sub ( %rvalid && %rready && %rlast && %rid == ? , 1 )")

unfoldable pub single_counter_rows : List Row
single_counter_rows =
    row (codes "_wlock [ 1 ]") (codes "load ( %awvalid && %awready , %awlock )") []
    ∷ row (codes "_rlock [ 1 ]") (codes "load ( %arvalid && %arready , %arlock )") []
    ∷ row (codes "_wlen [ 8 ]") (codes "load ( %awvalid && %awready , %awlen )") []
    ∷ row (codes "_rlen [ 8 ]") (codes "load ( %arvalid && %arready , %arlen )") []
    ∷ row (codes "_wbeat [ 9 ]") (codes "load ( %wvalid && %wready && %wlast , 0 )")
    (codes "add ( %wvalid && %wready , 1 )")
    ∷ row (codes "_rbeat [ 9 ]") (codes "load ( %rvalid && %rready && %rlast , 0 )")
    (codes "add ( %rvalid && %rready , 1 )")
    ∷ []

unfoldable pub response_rows : List Row
response_rows =
    row (codes "_b_after_aw") (codes "%bvalid |-> _awo != 0") []
    ∷ row (codes "_b_after_w") (codes "%bvalid |-> _wlo != 0") []
    ∷ row (codes "_r_after_ar") (codes "%rvalid |-> _aro != 0") []
    ∷ []

-- the item is a watched ID
unfoldable pub write_id_row : Row
write_id_row = row (codes "_b_id_?") (codes "%bvalid && %bid == ? |-> _awo_? != 0") []

unfoldable pub read_id_row : Row
read_id_row = row (codes "_r_id_?") (codes "%rvalid && %rid == ? |-> _aro_? != 0") []

unfoldable pub single_rows : List Row
single_rows =
    row (codes "_b_exokay") (codes "%bvalid && %bresp == 2'b01 |-> _wlock") []
    ∷ row (codes "_r_exokay") (codes "%rvalid && %rresp == 2'b01 |-> _rlock") []
    ∷ row (codes "_w_last") (codes "%wvalid && _awo == 1 && _wlo == 0 |->")
    (codes "%wlast == ( _wbeat == _wlen )")
    ∷ row (codes "_r_last") (codes "%rvalid && _aro == 1 |->")
    (codes "%rlast == ( _rbeat == _rlen )")
    ∷ []

-- names are written out, and an ID may be the item
abbrev pub of_port : PortData → List ℕ → Filling
of_port p item = record { port = p; channel = []; item = item }

-- a line for each watched ID
abbrev pub for_ids : (Filling → Row → List ℕ) → PortData → Row → List (List ℕ)
for_ids line p r = map (λ i. line (of_port p (decimal i)) r) p.watch

abbrev pub for_rows : (Filling → Row → List ℕ) → PortData → List Row → List (List ℕ)
for_rows line p rs = map (line (of_port p [])) rs

abbrev pub in_single : Mode → List (List ℕ) → List (List ℕ)
in_single modes.Multi ls = []
in_single modes.Single ls = ls

abbrev pub single_counters : PortData → Mode → List (List ℕ)
single_counters p mode = in_single mode (for_rows counter_line p single_counter_rows)

abbrev pub single_rules : PortData → Mode → List (List ℕ)
single_rules p mode = in_single mode (for_rows rule_line p single_rows)

unfoldable pub counter_lines : PortData → Mode → List (List ℕ)
counter_lines p mode =
    for_rows counter_line p counter_rows
    ++ for_ids counter_line p writes_row ++ for_ids counter_line p reads_row
    ++ single_counters p mode

unfoldable pub response_lines : PortData → Mode → List (List ℕ)
response_lines p mode =
    for_rows rule_line p response_rows
    ++ for_ids rule_line p write_id_row ++ for_ids rule_line p read_id_row
    ++ single_rules p mode

unfoldable pub channels : PortData → List (List ℕ)
channels p =
    channel_lines p (codes "aw") address_payload ++ channel_lines p (codes "w") write_payload
    ++ channel_lines p (codes "b") response_payload ++ channel_lines p (codes "ar") address_payload
    ++ channel_lines p (codes "r") read_payload

unfoldable pub addresses : PortData → List (List ℕ)
addresses p = address_lines p (codes "aw") ++ address_lines p (codes "ar")

unfoldable pub counting : PortData → Mode → List (List ℕ)
counting p mode = counter_lines p mode ++ response_lines p mode

-- The table of a port: its lines, in order.
unfoldable pub table : PortData → Mode → List (List ℕ)
table p mode = channels p ++ addresses p ++ counting p mode

-- the tokens of lines
abbrev pub tokens_of : List (List ℕ) → List (List ℕ)
tokens_of ls = flat_map tokens ls
