-- The refusal in each answer for C, in lengths, frames and settings among them, is the one that the answer's own
-- definition numbers.
-- Assumes nothing.
use Rattle.std.specs.Prelude.{Ok, Err, Result, ⊤}
use mathlib.Core.Path.{◌≡◌, refl}
use Rattle.waymaker_core.specs.declared.error.Refusal.{Refusal}
use Rattle.waymaker_core.specs.Refusals.{decode_refusal_of, refusal_of}
use Rattle.storage.specs.Settings.{Checked}
use Rattle.frame.specs.Lengths.{Size}
use Rattle.payload.specs.declared.Decoded.{Decoded}
use Rattle.payload.specs.declared.Decoded.TheVariants.{Record, UnknownKind}
use Rattle.decode.specs.declared.Frame.{Frame}
use Rattle.decode.specs.Decode.{FrameLen, Decoding}
use Rattle.numbers.specs.Refusing.{not_refused, refused_as, done_by, length_by, frame_length_by, settings_by}
use Rattle.numbers.specs.Reading.{frame_by, decoded_by}

pub done_numbers : (z : Result ⊤ Refusal) → done_by z ≡ refused_as (refusal_of z)
done_numbers (Ok x) = refl
done_numbers (Err e) = refl

pub length_numbers : (z : Size) → (length_by z).refused ≡ refused_as (refusal_of z)
length_numbers (Ok n) = refl
length_numbers (Err e) = refl

pub frame_length_numbers : (z : FrameLen) → (frame_length_by z).refused ≡ refused_as (decode_refusal_of z)
frame_length_numbers (Ok n) = refl
frame_length_numbers (Err e) = refl

pub settings_numbers : (z : Checked) → (settings_by z).refused ≡ refused_as (refusal_of z)
settings_numbers (Ok g) = refl
settings_numbers (Err e) = refl

frame_numbers : (f : Frame) (d : Decoded) → (frame_by f d).refused ≡ not_refused
frame_numbers f (Record x) = refl
frame_numbers f (UnknownKind k) = refl

pub decoded_numbers : (z : Decoding) → (decoded_by z).refused ≡ refused_as (decode_refusal_of z)
decoded_numbers (Ok f) = frame_numbers f f.decoded
decoded_numbers (Err e) = refl
