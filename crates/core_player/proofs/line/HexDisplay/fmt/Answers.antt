use Rattle.std.proofs.Common.{rules, arith, Some, ◌≡◌, ◌+◌, ◌<◌, length, get_or, take, true, false, [], ◌∷◌, ◌++◌, ap, ◌∙◌, refl, sym}
use Rattle.std.proofs.lemmas.Grind.{put_two}
use Rattle.std.proofs.lemmas.List.{take_more}
use Rattle.std.proofs.lemmas.List.Concat.{flat_map-append}
use Rattle.std.proofs.lemmas.Fmt.{hex_byte}
use Rattle.std.specs.Fmt.{styled_digits_output, format_spec, padded_integral, shown_prefix, radix_prefix}
use Rattle.std.specs.Option.{option_map}
use Rattle.core_player.specs.Printing.{hex_text, byte_text}
use Rattle.core_player.proofs.line.HexDisplay.fmt.Goals as goal

pub loop-byte-preserved : goal.loop-byte-preserved
loop-byte-preserved g c plain =
    let bytes = c.args.self.now.bytes.now in
    let i = c.loop-byte.byte-index in
    let small : get_or bytes i 0 < 256 = search rules in
    let spec = format_spec 32 0 4 2 18446744073709551615 in
    let shown : styled_digits_output c.in_radix.result spec ≡ Some (byte_text (get_or bytes i 0)) =
    ap (option_map (padded_integral spec false (shown_prefix spec (radix_prefix c.in_radix.result.base)))) c.in_radix.ensures ∙ ap Some (hex_byte true (get_or bytes i 0) small) in
    let before = c.loop-byte.invariant plain in
    let writes = rw (c.laid_out.ensures, shown) at c.in_ok-write.ensures.writes in
    let wrote = writes before.plain refl in
    let inside : i < length bytes = omega arith in
    let more : hex_text (take i bytes) ++ byte_text (get_or bytes i 0) ≡ hex_text (take (i + 1) bytes) = sym (ap hex_text (take_more bytes i 0 inside) ∙ flat_map-append byte_text (take i bytes) (get_or bytes i 0 ∷ [])) in
    put_two g.W.Write.write_str_gives _ _ _ _ _ _ before wrote more
