use Rattle.std.proofs.Common.{◌≡◌, ap, ◌∙◌, w64}
use Rattle.std.specs.Int.{to_be_bytes}
use Rattle.hex.specs.Hex.{encode_lower}
use Rattle.pef_io.proofs.Hexadecimal.{word_digits}
use Rattle.pef_io.proofs.text.write_hexadecimal.Goals as goal

-- the text is that of the bytes of the value, and its digits start past the zeros
pub returns-clause-digits : goal.returns-clause-digits
returns-clause-digits c =
    let bytes = rw c.unwrap.ensures at c.encode_to_slice.ensures.written in
    let text : c.encode_to_slice.new.output ≡ encode_lower (to_be_bytes w64 c.args.value) = bytes ∙ ap encode_lower c.to_be_bytes.ensures in
    rw (c.unwrap_or.ensures, c.first_digit.ensures, text) (word_digits c.args.value c.ranges.value.fits)
