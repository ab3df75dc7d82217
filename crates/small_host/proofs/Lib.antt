mod Bringing
