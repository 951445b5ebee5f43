mod Handles
mod Listed
mod ReadTexts
mod Results
mod Shown
mod Sends
mod StreamHandles
mod Streams
